use Rattle.std.proofs.Common.{◌≡◌, ◌++◌, flat_map, take}
use Rattle.abt_machine.specs.Texts.{unit_line}
use Rattle.abt_machine.specs.Words.{ended, numbered}
use Rattle.abt_report.specs.Pictures.{units_in_rows}
use Rattle.abt_report.proofs.reports.push_units.Given as goal

abbrev pub invariant-loop-u : goal.invariant-loop-u
invariant-loop-u l = l.out.items ≡ l.fn.out.items ++ flat_map ended (numbered (unit_line l.w) (units_in_rows (take l.u l.rows)))
