use Rattle.std.proofs.Common.{◌≡◌, take}
use Rattle.abt_calls.specs.Showing.{rows_as}
use Rattle.abt_model.specs.Pictures.{placed}
use Rattle.abt_model.proofs.pictures.place_all.Given as goal

abbrev pub invariant-loop-unit : goal.invariant-loop-unit
invariant-loop-unit l = l.rows.items ≡ placed (rows_as l.shown (take l.unit-index l.units)) l.fn.rows.items
