-- One unit more.
use Rattle.std.proofs.Common.{◌≡◌, ◌<◌, ◌∷◌, [], length, map, sym, ◌∙◌, ap, subst, arith}
use Rattle.std.specs.Vec.Iter.{into_iter_items}
use Rattle.std.proofs.lemmas.List.Elements.{All-tail}
use Rattle.abt_machine.specs.Values.{Owned}
use Rattle.abt_calls.specs.Showing.{rows_as}
use Rattle.abt_commons.specs.Acts.{owned}
use Rattle.abt_drain.specs.Pictures.{AreBelow, placed}
use Rattle.abt_drain.proofs.Placing.{some-put, still-below}
use Rattle.abt_drain.proofs.pictures.place_frames.Goals as goal

pub loop-unit-preserved : goal.loop-unit-preserved
loop-unit-preserved c =
    let at = c.loop-unit in
    let unit = c.in-Some.unit in
    let left = into_iter_items c.next.new.self in
    let rest = map owned left in
    let is : into_iter_items at.unit-iterator ≡ unit ∷ left = c.in-Some.ensures.steps.0 in
    let xs = rows_as c.args.shown (owned unit ∷ []) in
    record {
      next = tt;
      finite = tt;
      rows = some-put xs at.rows.items c.place.new.rows.items c.place.ensures (rows_as c.args.shown rest) _ (ap (λ us. placed (rows_as c.args.shown (map owned us)) at.rows.items) (sym is) ∙ at.invariant.rows);
      below = still-below xs at.rows.items c.place.new.rows.items c.place.ensures rest
          (All-tail (λ (q : Owned). q.number < length at.rows.items) (owned unit) rest (subst (λ us. AreBelow (length at.rows.items) (map owned us)) is at.invariant.below));
      left = (let were = at.invariant.left in let gone = c.in-Some.ensures.steps.1 in let fewer = ap (λ us. length us) is in omega (arith, were, gone, fewer));
    }
