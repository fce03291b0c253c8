-- What a journal says about each life of each unit.
use Rattle.std.specs.Prelude.{ℕ, zero, suc, ◌≡◌, ◌≢◌, ◌<◌, ◌≤◌, ◌==◌, ◌&&◌, if◌then◌else◌, Bool, true, false, List, [], ◌∷◌, ◌++◌, length, take, filter_map, count_by, Option, Some, None, Contains}
use Rattle.abt_machine.specs.declared.events.Cause.{Cause}
use Rattle.abt_machine.specs.declared.events.Cause.TheVariants as cause
use Rattle.abt_machine.specs.declared.events.Code.TheVariants as code
use Rattle.abt_machine.specs.declared.events.Event.{Event}
use Rattle.abt_machine.specs.declared.events.What.{What}
use Rattle.abt_machine.specs.declared.events.What.TheVariants as what
use Rattle.abt_machine.specs.declared.operations.Body.{Body}
use Rattle.abt_machine.specs.declared.operations.Body.TheVariants as body
use Rattle.abt_machine.specs.declared.operations.Op.{Op}
use Rattle.abt_machine.specs.declared.operations.Op.TheVariants as op
use Rattle.abt_machine.specs.declared.workload.Parts.{Parts}
use Rattle.abt_machine.specs.Fronts.{is_some_of}
use Rattle.abt_machine.specs.Operations.{nature_of}
use Rattle.abt_machine.specs.Workloads.{body_at, op_at, start_of}
use Rattle.abt_machine.specs.Queues.{last}
use Rattle.abt_machine.specs.Start.{first_life}

-- the operation gives unit u a life
abbrev pub is_birth : ℕ → Option Op → Bool
is_birth u None = false
is_birth u (Some o) = is_some_of u (nature_of o).birth

-- the life of unit u after an event, now being the one before: it rises at each step that creates or revives u and goes through
abbrev pub life_after : Parts → ℕ → ℕ → What → ℕ
life_after W u now (what.Step v k code.Ok) = if is_birth u (op_at W v.0 k) then suc now else now
life_after W u now w = now

abbrev pub last_life_from : Parts → ℕ → ℕ → List Event → ℕ
last_life_from W u now [] = now
last_life_from W u now (e ∷ es) = last_life_from W u (life_after W u now e.what) es

-- the life that unit u is in after a journal, 0 if it is unborn
abbrev pub last_life : Parts → List Event → ℕ → ℕ
last_life W J u = last_life_from W u (first_life (start_of W u)) J

-- the unit that an event is of, if it is of one
abbrev pub unit_of : What → Option ℕ
unit_of (what.Miss p) = None
unit_of (what.Take p u) = Some u.0
unit_of (what.Look u) = Some u.0
unit_of (what.Step u k c) = Some u.0
unit_of (what.Call u k n) = Some u.0
unit_of (what.Put u p) = Some u.0
unit_of (what.End u c) = Some u.0
unit_of (what.Enter u) = Some u.0
unit_of (what.Leave u) = Some u.0

abbrev pub events_from : Parts → ℕ → ℕ → ℕ → List Event → List What
events_from W u l now [] = []
events_from W u l now (e ∷ es) = (if is_some_of u (unit_of e.what) && (now == l) then e.what ∷ [] else []) ++ events_from W u l (life_after W u now e.what) es

-- the events of unit u that come while it is in life l
abbrev pub life_events : Parts → List Event → ℕ → ℕ → List What
life_events W J u l = events_from W u l (first_life (start_of W u)) J

abbrev pub position_in : What → Option ℕ
position_in (what.Step u k c) = Some k
position_in (what.Call u k n) = Some k
position_in _ = None

-- the positions of the steps among these events
abbrev pub positions_in : List What → List ℕ
positions_in es = filter_map position_in es

-- the numbers below n, in order
abbrev pub count_up : ℕ → List ℕ
count_up zero = []
count_up (suc n) = count_up n ++ n ∷ []

abbrev pub cause_in : What → Option Cause
cause_in (what.End u c) = Some c
cause_in _ = None

-- the causes of the ends among these events
abbrev pub ends_in : List What → List Cause
ends_in es = filter_map cause_in es

abbrev pub is_enter : What → Bool
is_enter (what.Enter u) = true
is_enter _ = false

abbrev pub is_leave : What → Bool
is_leave (what.Leave u) = true
is_leave _ = false

abbrev pub enters_in : List What → ℕ
enters_in es = count_by is_enter es

abbrev pub leaves_in : List What → ℕ
leaves_in es = count_by is_leave es

-- the operations that the steps among these events have done, of all that there are
abbrev pub done_in : List Op → List What → List Op
done_in ops es = take (length (positions_in es)) ops

-- none of these operations is an `exit`
abbrev pub NoExit : List Op → Type 0
NoExit ops = Contains ops op.Exit → ⊥

-- no operation but the last of these is an `exit`
abbrev pub NoExitBefore : List Op → Type 0
NoExitBefore ops = (before rest : List Op) → ops ≡ before ++ op.Exit ∷ rest → rest ≡ []

-- how a life of a unit with these operations may end: done after all of them or asked after at most that many, none of them
-- an `exit`, or by its own `exit`, its last step
abbrev pub EndsSteps : List Op → List What → Cause → Type 0
EndsSteps ops es cause.Done = (length (positions_in es) ≡ length ops) × NoExit ops
EndsSteps ops es cause.Asked = (length (positions_in es) ≤ length ops) × NoExit (done_in ops es)
EndsSteps ops es cause.Access = ⊥
EndsSteps ops es cause.Own = last (done_in ops es) ≡ Some op.Exit

-- how a life of a scheduler unit may end: done after one entry and one leave; or, without an entry, asked or for lack of access
abbrev pub EndsSched : List What → Cause → Type 0
EndsSched es cause.Done = (enters_in es ≡ 1) × (leaves_in es ≡ 1)
EndsSched es cause.Asked = enters_in es ≡ 0
EndsSched es cause.Access = enters_in es ≡ 0
EndsSched es cause.Own = ⊥

-- only a thread ends itself
abbrev pub EndsLife : Body → List What → Cause → Type 0
EndsLife (body.Ult ops) es c = EndsSteps ops es c
EndsLife (body.Task ops) es c = EndsSteps ops es c × (c ≢ cause.Own)
EndsLife (body.Sched g) es c = (positions_in es ≡ []) × EndsSched es c

-- also in a life that goes on there are at most as many steps as operations, none but the last is an `exit`, and a
-- scheduler unit makes none
abbrev pub StepsFit : Body → List What → Type 0
StepsFit (body.Ult ops) es = (length (positions_in es) ≤ length ops) × NoExitBefore (done_in ops es)
StepsFit (body.Task ops) es = (length (positions_in es) ≤ length ops) × NoExitBefore (done_in ops es)
StepsFit (body.Sched g) es = positions_in es ≡ []

-- a life with these events: its steps are 0, 1 and so on, each once in order; it has at most one end, and nothing after it
pub record IsLife (b : Body) (es : List What) : Type 0 where
  pub steps : positions_in es ≡ count_up (length (positions_in es))
  pub fit : StepsFit b es
  pub ends : (c : Cause) → Contains (ends_in es) c → EndsLife b es c
  pub ends_last : (before rest : List What) (w : What) (c : Cause) → es ≡ before ++ w ∷ rest → cause_in w ≡ Some c → rest ≡ []

-- every life of every unit is one, every life but a unit's last has its end, and an unborn unit has no event
pub record LivesOf (W : Parts) (J : List Event) : Type 0 where
  pub lives : (u l : ℕ) → u < length W.units → 0 < l → IsLife (body_at W u) (life_events W J u l)
  pub ended : (u l : ℕ) → u < length W.units → 0 < l → l < last_life W J u → (c : Cause) × (ends_in (life_events W J u l) ≡ c ∷ [])
  pub unborn : (u : ℕ) → u < length W.units → life_events W J u 0 ≡ []
