-- What a stream does next, decided by its own state.
use Rattle.std.specs.Prelude.{ℕ, nat_lt, if◌then◌else◌, Bool, true, false, List, [], ◌∷◌, length, Option, Some, None, option_map}
use Rattle.abt_machine.specs.declared.events.Cause.{Cause}
use Rattle.abt_machine.specs.declared.events.Cause.TheVariants as cause
use Rattle.abt_machine.specs.declared.operations.Body.{Body}
use Rattle.abt_machine.specs.declared.operations.Body.TheVariants as body
use Rattle.abt_machine.specs.declared.operations.Op.{Op}
use Rattle.abt_machine.specs.declared.workload.Parts.{Parts}
use Rattle.abt_machine.specs.Workloads.{body_at}
use Rattle.abt_machine.specs.Access.{may_take_all}
use Rattle.abt_machine.specs.State.{State, Stream, Frame, Mark, Plain, Asked, Left, Exited}
use Rattle.abt_machine.specs.Lines.{standing, hand, next, InTray}

-- the kind of the next event; RoundDue is a Take or a Miss at the next pool of the round
pub data Due : Type 0 where
  PutDue : Due
  LookDue : Due
  EndDue : Cause → Due
  EnterDue : Due
  StepDue : Due
  LeaveDue : Due
  RoundDue : Due

-- a step if an operation is left, else the end
abbrev pub due_of_ops : List Op → ℕ → Due
due_of_ops ops k = if nat_lt k (length ops) then StepDue else EndDue cause.Done

-- what is due for a unit in hand at position k: its end if its look found a cancel request or its last step was `exit`;
-- for a scheduler unit its entry if s may take from all of its pools, or its end if s must not or the unit has left; for any
-- other its next step, or its end if no operation is left
abbrev pub due_of_unit : Parts → ℕ → Mark → Body → ℕ → Due
due_of_unit W s Asked b k = EndDue cause.Asked
due_of_unit W s Exited b k = EndDue cause.Own
due_of_unit W s Plain (body.Sched g) k = if may_take_all W s g.0 then EnterDue else EndDue cause.Access
due_of_unit W s Left (body.Sched g) k = EndDue cause.Done
due_of_unit W s Plain (body.Ult ops) k = due_of_ops ops k
due_of_unit W s Left (body.Ult ops) k = due_of_ops ops k
due_of_unit W s Plain (body.Task ops) k = due_of_ops ops k
due_of_unit W s Left (body.Task ops) k = due_of_ops ops k

-- a stacked top frame is left after an empty round; else a round goes on or begins
abbrev pub due_of_frames : Bool → List Frame → Due
due_of_frames true (f ∷ fs) = LeaveDue
due_of_frames true [] = RoundDue
due_of_frames false fs = RoundDue

abbrev pub due_by_hand : Parts → ℕ → Stream → Option (ℕ × ℕ) → Due
due_by_hand W s own (Some u) = due_of_unit W s own.mark (body_at W u.0) u.1
due_by_hand W s own None = due_of_frames own.top.empty own.below

abbrev pub due_by_next : {Y : Type 0} → Parts → ℕ → Stream → Option Y → Option (ℕ × ℕ) → Due
due_by_next W s own (Some v) in_hand = LookDue
due_by_next W s own None in_hand = due_by_hand W s own in_hand

-- first the tray is emptied, then the taken unit is looked at, then the unit in hand goes on; in_hand is its number and position
abbrev pub due_by : {X Y : Type 0} → Parts → ℕ → Stream → List X → Option Y → Option (ℕ × ℕ) → Due
due_by W s own (u ∷ us) taken in_hand = PutDue
due_by W s own [] taken in_hand = due_by_next W s own taken in_hand

abbrev pub at_position : State → ℕ → ℕ × ℕ
at_position S u = (u, (S.carried u).position)

-- what stream s does next
abbrev pub due : Parts → State → ℕ → Due
due W S s = due_by W s (S.stream s) (standing W S (InTray s)) (next W S s) (option_map (at_position S) (hand W S s))
