use Rattle.std.proofs.Common.{◌≡◌, length}
use Rattle.abt_machine.specs.Grammar.{format_of}
use Rattle.abt_machine.specs.Spelling.{lines_of}
use Rattle.abt_workload.proofs.text.format_of.Given as goal

abbrev pub invariant-loop-rest : goal.invariant-loop-rest
invariant-loop-rest l = format_of (lines_of l.rest) ≡ format_of (lines_of l.text)

abbrev pub decreases-loop-rest : goal.decreases-loop-rest
decreases-loop-rest l = length l.rest
