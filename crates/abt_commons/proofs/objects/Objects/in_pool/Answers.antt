-- A unit in a pool.
use Rattle.std.proofs.Common.{◌≡◌, sym, ◌∙◌, ap, subst}
use Rattle.std.specs.List.{find}
use Rattle.abt_machine.specs.declared.events.Site.TheVariants as site
use Rattle.abt_machine.specs.Acts.{Remove}
use Rattle.abt_commons.specs.Held.{OneValue}
use Rattle.abt_commons.specs.Reading.{IsPool, is_row_of, row_found, rows_at_site}
use Rattle.abt_commons.proofs.KindsSeen.{pool-seen}
use Rattle.abt_commons.proofs.Moving.{object-here}
use Rattle.abt_commons.proofs.Rows.{rows-here}
use Rattle.abt_commons.proofs.objects.Objects.in_pool.Goals as goal

pub in_pool-requires : goal.in_pool-requires
in_pool-requires c =
    let s = c.self.inside in
    let here = object-here s.w.now s.ones.items s.clocks.items c.self.invariant.0 c.self.invariant.1 (site.Pool c.args.p) c.site_number.result c.site_number.ensures c.index.result.now ∙ ap (λ (one : OneValue). one.object) (sym c.index.ensures) in
    subst IsPool here (pool-seen _ (c.self.invariant.1.allowed (site.Pool c.args.p) (Remove 0) tt))

pub returns : goal.returns
returns c =
    let s = c.self.inside in
    let rows = rows-here s.w.now s.ones.items s.clocks.items c.self.invariant.0 c.self.invariant.1 (site.Pool c.args.p) c.site_number.result c.site_number.ensures c.index.result.now c.index.ensures ∙ ap (λ held. rows_at_site held (site.Pool c.args.p)) c.self.view_is in
    subst (λ rows. find (is_row_of c.args.u.0) rows ≡ row_found c.in_pool.result) rows c.in_pool.ensures
