use Rattle.std.proofs.Common.{◌≡◌, ◌<◌, ℕ, Some}
use Rattle.abt_machine.specs.Valid.{IsThing}
use Rattle.abt_machine.specs.Workloads.{thing_at}
use Rattle.abt_machine.specs.declared.operations.Thing.{Thing}
use Rattle.abt_machine.proofs.workload.Parts.are_things.Given as goal

abbrev pub invariant-loop-x : goal.invariant-loop-x
invariant-loop-x l = (x : ℕ) (t : Thing) → x < l.x → thing_at l.self x ≡ Some t → IsThing l.self.objects x t
