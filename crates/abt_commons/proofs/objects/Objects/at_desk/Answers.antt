-- A unit at a desk.
use Rattle.std.proofs.Common.{◌≡◌, sym, ◌∙◌, ap, subst}
use Rattle.std.specs.List.{find}
use Rattle.abt_machine.specs.declared.events.Site.TheVariants as site
use Rattle.abt_machine.specs.Acts.{Look}
use Rattle.abt_commons.specs.Held.{OneValue}
use Rattle.abt_commons.specs.Reading.{IsDesk, is_row_of, row_found, rows_at_site}
use Rattle.abt_commons.proofs.KindsSeen.{desk-seen}
use Rattle.abt_commons.proofs.Moving.{object-here}
use Rattle.abt_commons.proofs.Rows.{rows-here}
use Rattle.abt_commons.proofs.objects.Objects.at_desk.Goals as goal

pub at_desk-requires : goal.at_desk-requires
at_desk-requires c =
    let s = c.self.inside in
    let here = object-here s.w.now s.ones.items s.clocks.items c.self.invariant.0 c.self.invariant.1 (site.Desk c.args.v) c.site_number.result c.site_number.ensures c.index.result.now ∙ ap (λ (one : OneValue). one.object) (sym c.index.ensures) in
    subst IsDesk here (desk-seen _ (c.self.invariant.1.allowed (site.Desk c.args.v) Look tt))

pub returns : goal.returns
returns c =
    let s = c.self.inside in
    let rows = rows-here s.w.now s.ones.items s.clocks.items c.self.invariant.0 c.self.invariant.1 (site.Desk c.args.v) c.site_number.result c.site_number.ensures c.index.result.now c.index.ensures ∙ ap (λ held. rows_at_site held (site.Desk c.args.v)) c.self.view_is in
    subst (λ rows. find (is_row_of c.args.u.0) rows ≡ row_found c.at_desk.result) rows c.at_desk.ensures
