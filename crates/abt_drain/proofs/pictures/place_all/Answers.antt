-- One unit more.
use Rattle.std.proofs.Common.{◌≡◌, ◌<◌, ◌∷◌, [], length, sym, ◌∙◌, ap, subst}
use Rattle.std.proofs.lemmas.List.Elements.{All-tail}
use Rattle.abt_machine.specs.Values.{Owned}
use Rattle.abt_calls.specs.Showing.{rows_as}
use Rattle.abt_drain.specs.Pictures.{AreBelow, placed}
use Rattle.abt_drain.proofs.Placing.{some-put, still-below}
use Rattle.abt_drain.proofs.pictures.place_all.Goals as goal

pub loop-unit-preserved : goal.loop-unit-preserved
loop-unit-preserved c =
    let at = c.loop-unit in
    let o = c.in-Some.unit.value.owned in
    let rest = c.take_front.new.self.units in
    let is : at.units.units ≡ o ∷ rest = c.in-Some.ensures.first in
    let xs = rows_as c.args.shown (o ∷ []) in
    record {
      rows = some-put xs at.rows.items c.place.new.rows.items c.place.ensures (rows_as c.args.shown rest) _ (ap (λ os. placed (rows_as c.args.shown os) at.rows.items) (sym is) ∙ at.invariant.rows);
      below = still-below xs at.rows.items c.place.new.rows.items c.place.ensures rest
          (All-tail (λ (q : Owned). q.number < length at.rows.items) o rest (subst (AreBelow (length at.rows.items)) is at.invariant.below));
    }
