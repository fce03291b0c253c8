-- How many events other than misses a run has. W is a workload and Z what is stored beside it; each law supposes that W is valid and that each user scheduler's order is stored.
use Rattle.std.specs.Prelude.{ℕ, ◌≤◌, ◌+◌, ◌*◌, ◌&&◌, Bool, true, false, not, List, length, count_by, is_some, Option, Some, None}
use Rattle.abt_machine.specs.declared.events.Code.{Code}
use Rattle.abt_machine.specs.declared.events.Code.TheVariants as code
use Rattle.abt_machine.specs.declared.events.Event.{Event}
use Rattle.abt_machine.specs.declared.events.What.{What}
use Rattle.abt_machine.specs.declared.events.What.TheVariants as what
use Rattle.abt_machine.specs.declared.operations.Op.{Op}
use Rattle.abt_machine.specs.declared.workload.Parts.{Parts}
use Rattle.abt_machine.specs.Lives.{count_up}
use Rattle.abt_machine.specs.Operations.{nature_of}
use Rattle.abt_machine.specs.Outcomes.{steps_in}
use Rattle.abt_machine.specs.Rounds.{OrdersStored}
use Rattle.abt_machine.specs.Runs.{Run}
use Rattle.abt_machine.specs.Stored.{Stored}
use Rattle.abt_machine.specs.Valid.{IsValid}
use Rattle.abt_machine.specs.Workloads.{body_at, is_sched, op_at, start_of}
use Rattle.abt_bounds.specs.Laws.{HasNoRevive, ops_in}

abbrev pub is_miss : What → Bool
is_miss (what.Miss p) = true
is_miss _ = false

-- the number of events in a journal, misses not counted
abbrev pub events_in : List Event → ℕ
events_in J = count_by (λ (e : Event). not (is_miss e.what)) J

-- an operation, with its code, by which a life begins
abbrev pub begins_by : Option Op → Code → Bool
begins_by (Some o) code.Ok = is_some (nature_of o).birth
begins_by _ _ = false

-- by this event a life begins
abbrev pub begins_life : Parts → What → Bool
begins_life W (what.Step u k c) = begins_by (op_at W u.0 k) c
begins_life W _ = false

-- how many lives the steps of a journal begin
abbrev pub lives_begun : Parts → List Event → ℕ
lives_begun W J = count_by (λ (e : Event). begins_life W e.what) J

-- a scheduler unit's life begins, if one does
abbrev pub is_sched_birth : Parts → Option ℕ → Bool
is_sched_birth W None = false
is_sched_birth W (Some v) = is_sched (body_at W v)

abbrev pub begins_sched_by : Parts → Option Op → Code → Bool
begins_sched_by W (Some o) code.Ok = is_sched_birth W (nature_of o).birth
begins_sched_by W _ _ = false

-- by this event the life of a scheduler unit begins
abbrev pub begins_sched : Parts → What → Bool
begins_sched W (what.Step u k c) = begins_sched_by W (op_at W u.0 k) c
begins_sched W _ = false

-- how many lives of scheduler units the steps of a journal begin
abbrev pub scheds_begun : Parts → List Event → ℕ
scheds_begun W J = count_by (λ (e : Event). begins_sched W e.what) J

-- how many units have a start
abbrev pub started : Parts → ℕ
started W = count_by (λ u. is_some (start_of W u)) (count_up (length W.units))

-- and how many of them are scheduler units
abbrev pub scheds_started : Parts → ℕ
scheds_started W = count_by (λ u. is_some (start_of W u) && is_sched (body_at W u)) (count_up (length W.units))

-- At most 4 for each step: itself, and a put, a take and a look. 1 more for each life that a step begins: its end. 3 for each unit with a start: a take, a look and an end. 2 more for each life of a scheduler unit: its entry and its leave.
abbrev pub EventsAreFew : Parts → Stored → Type 0
EventsAreFew W Z = IsValid W → OrdersStored W Z.orders → (J : List Event) → Run W Z J → events_in J ≤ 4 * steps_in J + lives_begun W J + 3 * started W + 2 * (scheds_begun W J + scheds_started W)

-- so at most 7 for each step, and 5 for each unit with a start
abbrev pub IsSmall : Parts → List Event → Type 0
IsSmall W J = events_in J ≤ 7 * steps_in J + 5 * started W

abbrev pub RunsAreSmall : Parts → Stored → Type 0
RunsAreSmall W Z = IsValid W → OrdersStored W Z.orders → (J : List Event) → Run W Z J → IsSmall W J

-- without revivals each operation is one step at most, so the workload alone bounds its runs
abbrev pub RunsAreBounded : Parts → Stored → Type 0
RunsAreBounded W Z = IsValid W → OrdersStored W Z.orders → HasNoRevive W → (J : List Event) → Run W Z J → events_in J ≤ 7 * ops_in W + 5 * started W
