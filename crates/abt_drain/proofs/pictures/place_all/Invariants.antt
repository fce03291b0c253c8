-- The units that are left.
use Rattle.std.proofs.Common.{◌≡◌, length}
use Rattle.abt_calls.specs.Showing.{rows_as}
use Rattle.abt_drain.specs.Pictures.{AreBelow, placed}
use Rattle.abt_drain.proofs.pictures.place_all.Given as goal

abbrev pub invariant-loop-unit : goal.invariant-loop-unit
invariant-loop-unit l = record {
  rows : placed (rows_as l.shown l.units.units) l.rows.items ≡ placed (rows_as l.shown l.fn.units.units) l.fn.rows.items;
  below : AreBelow (length l.rows.items) l.units.units;
}

abbrev pub decreases-loop-unit : goal.decreases-loop-unit
decreases-loop-unit l = length l.units.units
