-- The pool at its number.
use Rattle.std.proofs.Common.{◌==◌, length, sym, ◌∙◌, ap, subst}
use Rattle.abt_machine.specs.declared.events.Site.TheVariants as site
use Rattle.abt_machine.specs.Acts.{Remove}
use Rattle.abt_calls.specs.Keeps.{contents_of}
use Rattle.abt_commons.specs.Held.{OneValue, object_at}
use Rattle.abt_commons.specs.Reading.{IsPool}
use Rattle.abt_commons.proofs.KindsSeen.{pool-seen}
use Rattle.abt_commons.proofs.Moving.{object-here}
use Rattle.abt_commons.proofs.objects.Objects.pool_is_empty.Goals as goal

pub is_empty_pool-requires : goal.is_empty_pool-requires
is_empty_pool-requires c =
    let s = c.self.inside in
    let here = object-here s.w.now s.ones.items s.clocks.items c.self.invariant.0 c.self.invariant.1 (site.Pool c.args.p) c.site_number.result c.site_number.ensures c.index.result.now ∙ ap (λ (one : OneValue). one.object) (sym c.index.ensures) in
    subst IsPool here (pool-seen _ (c.self.invariant.1.allowed (site.Pool c.args.p) (Remove 0) tt))

pub returns-clause-pool : goal.returns-clause-pool
returns-clause-pool c =
    subst (λ held. IsPool (object_at held (site.Pool c.args.p))) c.self.view_is (pool-seen _ (c.self.invariant.1.allowed (site.Pool c.args.p) (Remove 0) tt))

pub returns-clause-empty : goal.returns-clause-empty
returns-clause-empty c =
    let s = c.self.inside in
    let here = object-here s.w.now s.ones.items s.clocks.items c.self.invariant.0 c.self.invariant.1 (site.Pool c.args.p) c.site_number.result c.site_number.ensures c.index.result.now ∙ ap (λ (one : OneValue). one.object) (sym c.index.ensures) in
    let there = ap (λ held. object_at held (site.Pool c.args.p)) (sym c.self.view_is) ∙ here in
    c.is_empty_pool.ensures ∙ ap (λ object. length (contents_of object).units == 0) (sym there)
