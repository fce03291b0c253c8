-- One group more.
use Rattle.std.proofs.Common.{◌≡◌, ◌<◌, ◌∷◌, length, sym, ◌∙◌, ap, subst, arith}
use Rattle.std.specs.List.{All}
use Rattle.std.specs.Vec.Iter.{into_iter_items}
use Rattle.abt_calls.specs.Showing.{Row, rows_as}
use Rattle.abt_commons.specs.Groups.{rows_in}
use Rattle.abt_drain.specs.Pictures.{placed}
use Rattle.abt_drain.proofs.Placing.{others-below, some-length, some-put, units-below}
use Rattle.abt_drain.proofs.pictures.place_groups.Goals as goal

pub place_all-requires : goal.place_all-requires
place_all-requires c =
    let at = c.loop-group in
    let group = c.in-Some.group in
    let left = into_iter_items c.next.new.self in
    let is : into_iter_items at.group-iterator ≡ group ∷ left = c.in-Some.ensures.steps.0 in
    units-below (length at.rows.items) group.shown group.units.units (rows_in left) (subst (λ gs. All (λ (row : Row). row.1.number < length at.rows.items) (rows_in gs)) is at.invariant.below)

pub loop-group-preserved : goal.loop-group-preserved
loop-group-preserved c =
    let at = c.loop-group in
    let group = c.in-Some.group in
    let left = into_iter_items c.next.new.self in
    let is : into_iter_items at.group-iterator ≡ group ∷ left = c.in-Some.ensures.steps.0 in
    let xs = rows_as group.shown group.units.units in
    record {
      next = tt;
      finite = tt;
      rows = some-put xs at.rows.items c.place_all.new.rows.items c.place_all.ensures (rows_in left) _ (ap (λ gs. placed (rows_in gs) at.rows.items) (sym is) ∙ at.invariant.rows);
      below = subst (λ n. All (λ (row : Row). row.1.number < n) (rows_in left)) (sym (some-length xs at.rows.items c.place_all.new.rows.items c.place_all.ensures))
          (others-below (length at.rows.items) group.shown group.units.units (rows_in left) (subst (λ gs. All (λ (row : Row). row.1.number < length at.rows.items) (rows_in gs)) is at.invariant.below));
      left = (let were = at.invariant.left in let gone = c.in-Some.ensures.steps.1 in let fewer = ap (λ gs. length gs) is in omega (arith, were, gone, fewer));
    }
