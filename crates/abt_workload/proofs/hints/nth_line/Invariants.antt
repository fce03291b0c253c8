use Rattle.std.proofs.Common.{◌≡◌, [], length}
use Rattle.std.specs.Prelude.{slice_index_or}
use Rattle.abt_machine.specs.Spelling.{lines_of}
use Rattle.abt_workload.specs.Hints.{nth_line}
use Rattle.abt_workload.proofs.hints.nth_line.Given as goal

abbrev pub invariant-loop-rest : goal.invariant-loop-rest
invariant-loop-rest l = nth_line (lines_of l.text) l.line ≡ slice_index_or (lines_of l.rest) l.above []

abbrev pub decreases-loop-rest : goal.decreases-loop-rest
decreases-loop-rest l = length l.rest
