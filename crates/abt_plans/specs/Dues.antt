-- What is due for the unit in hand.
use Rattle.std.specs.Prelude.{ℕ, ◌≡◌, List, Some, slice_get}
use Rattle.abt_machine.specs.declared.operations.Body.TheVariants as body
use Rattle.abt_machine.specs.declared.operations.Op.{Op}
use Rattle.abt_machine.specs.declared.workload.Parts.{Parts}
use Rattle.abt_machine.specs.Next.{EndDue, EnterDue, StepDue, due_of_ops, due_of_unit}
use Rattle.abt_machine.specs.State.{Mark}
use Rattle.abt_machine.specs.Workloads.{body_at, op_at}
use Rattle.abt_plans.specs.declared.dues.HandDue.{HandDue}
use Rattle.abt_plans.specs.declared.dues.HandDue.TheVariants as hand

-- this is due at position k of a program
abbrev pub ProgramIs : List Op → ℕ → HandDue → Type 0
ProgramIs ops k (hand.End cause) = due_of_ops ops k ≡ EndDue cause
ProgramIs ops k (hand.Enter g) = ⊥
ProgramIs ops k (hand.Step a) = (due_of_ops ops k ≡ StepDue) × (slice_get ops k ≡ Some a)

-- this is due for unit u with mark m at position k, in the hand of stream s
abbrev pub DueIs : Parts → ℕ → Mark → ℕ → ℕ → HandDue → Type 0
DueIs W s m u k (hand.End cause) = due_of_unit W s m (body_at W u) k ≡ EndDue cause
DueIs W s m u k (hand.Enter g) = (due_of_unit W s m (body_at W u) k ≡ EnterDue) × (body_at W u ≡ body.Sched g)
DueIs W s m u k (hand.Step a) = (due_of_unit W s m (body_at W u) k ≡ StepDue) × (op_at W u k ≡ Some a)
