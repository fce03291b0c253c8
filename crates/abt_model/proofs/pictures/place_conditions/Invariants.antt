-- The conditions that are left.
use Rattle.std.proofs.Common.{◌≡◌, drop, length}
use Rattle.abt_machine.specs.Values.{conditions_from, conditions_of}
use Rattle.abt_calls.specs.Showing.{rows_at}
use Rattle.abt_model.specs.Pictures.{placed}
use Rattle.abt_model.proofs.pictures.place_conditions.Given as goal

abbrev pub invariant-loop-y : goal.invariant-loop-y
invariant-loop-y l = record {
  rows : placed (rows_at (conditions_from l.x.0 l.y (drop l.y l.w.objects)) l.left) l.rows.items ≡ placed (rows_at (conditions_of l.w l.x.0) l.conds) l.fn.rows.items;
  end : l.y-end ≡ length l.w.objects;
}
