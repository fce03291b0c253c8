-- The desk at its number.
use Rattle.std.proofs.Common.{sym, ◌∙◌, ap}
use Rattle.abt_machine.specs.declared.events.Site.TheVariants as site
use Rattle.abt_commons.specs.Held.{OneValue, object_at}
use Rattle.abt_commons.specs.Reading.{is_over}
use Rattle.abt_commons.proofs.Moving.{object-here}
use Rattle.abt_commons.proofs.objects.Objects.is_over.Goals as goal

pub returns : goal.returns
returns c =
    let s = c.self.inside in
    let here = object-here s.w.now s.ones.items s.clocks.items c.self.invariant.0 c.self.invariant.1 (site.Desk c.args.u) c.site_number.result c.site_number.ensures c.index.result.now ∙ ap (λ (one : OneValue). one.object) (sym c.index.ensures) in
    let there = ap (λ held. object_at held (site.Desk c.args.u)) (sym c.self.view_is) ∙ here in
    c.is_over.ensures ∙ ap is_over (sym there)
