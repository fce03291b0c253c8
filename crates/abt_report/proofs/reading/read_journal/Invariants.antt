use Rattle.std.proofs.Common.{◌+◌, ◌≤◌, length}
use Rattle.abt_report.specs.Journals.{StandsAfter}
use Rattle.abt_report.proofs.reading.read_journal.Given as goal

abbrev pub invariant-loop-rest : goal.invariant-loop-rest
invariant-loop-rest l = record { stands : StandsAfter l.bytes l.line l.events.items l.rest; few : l.line + length l.rest ≤ length l.bytes + 1 }

abbrev pub decreases-loop-rest : goal.decreases-loop-rest
decreases-loop-rest l = length l.rest
