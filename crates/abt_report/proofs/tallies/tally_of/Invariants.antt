use Rattle.std.proofs.Common.{◌≡◌, take}
use Rattle.abt_machine.specs.Texts.{tally_of}
use Rattle.abt_report.specs.Pictures.{units_in_rows}
use Rattle.abt_report.specs.Tallies.{IsAtMost}
use Rattle.abt_report.proofs.tallies.tally_of.Given as goal

abbrev pub invariant-loop-i : goal.invariant-loop-i
invariant-loop-i l = (l.tally ≡ tally_of (units_in_rows (take l.i l.rows))) × IsAtMost l.i l.tally
