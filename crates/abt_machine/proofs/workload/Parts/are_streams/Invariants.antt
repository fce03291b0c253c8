use Rattle.std.proofs.Common.{◌<◌, ℕ}
use Rattle.abt_machine.specs.Valid.{IsStream}
use Rattle.abt_machine.proofs.workload.Parts.are_streams.Given as goal

abbrev pub invariant-loop-s : goal.invariant-loop-s
invariant-loop-s l = (s : ℕ) → s < l.s → IsStream l.self s
