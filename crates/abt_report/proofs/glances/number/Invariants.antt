use Rattle.std.proofs.Common.{◌≡◌, ◌++◌, decimal, length}
use Rattle.abt_report.proofs.glances.number.Given as goal

abbrev pub invariant-loop-byte : goal.invariant-loop-byte
invariant-loop-byte l = decimal l.n ++ l.rest ≡ l.text

abbrev pub decreases-loop-byte : goal.decreases-loop-byte
decreases-loop-byte l = length l.rest
