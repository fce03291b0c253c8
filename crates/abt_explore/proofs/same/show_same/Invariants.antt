use Rattle.std.proofs.Common.{◌≡◌, take}
use Rattle.abt_report.specs.Pictures.{units_in_rows}
use Rattle.abt_explore.proofs.same.show_same.Given as goal

abbrev pub invariant-loop-at : goal.invariant-loop-at
invariant-loop-at l = units_in_rows (take l.at l.one) ≡ units_in_rows (take l.at l.two)
