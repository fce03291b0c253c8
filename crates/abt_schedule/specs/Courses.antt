-- A run under way, in turns of streams.
use Rattle.std.specs.Prelude.{ℕ, ◌≡◌, Bool, true, false, List, [], ◌∷◌, ◌++◌}
use Rattle.abt_machine.specs.declared.events.Event.{Event}
use Rattle.abt_machine.specs.Stored.{Stored}
use Rattle.abt_machine.specs.declared.workload.Parts.{Parts}
use Rattle.abt_machine.specs.declared.events.What.{What}
use Rattle.abt_explore.specs.Laws.{AreCounted, next_event}
use Rattle.abt_outcomes.specs.Rotations.{HasNoStep, IsWithin}
use Rattle.abt_schedule.specs.declared.course.Course.{Course}
use Rattle.abt_schedule.specs.declared.reached.Turn.{Turn}
use Rattle.abt_schedule.specs.Reaching.{IsReached, IsTurnBy}
use Rattle.abt_schedule.specs.Seeds.{AreTurnsOf, IsTurn}

-- the events, whose stamps count them, lead where the run has come to, and no stream made more steps than it may
pub record IsCourse (W : Parts) (Z : Stored) (course : Course) : Type 0 where
  pub reached : IsReached W Z course.events.items course.reached
  pub counted : AreCounted course.events.items
  pub within : IsWithin W course.steps course.events.items

-- stream s made an event after the events J, which makes this of its turn
abbrev pub HasMade : Parts → ℕ → List Event → Turn → List Event → Type 0
HasMade W s J turn K = (w : What) × (K ≡ J ++ next_event J s w ∷ []) × IsTurnBy W K s w turn

-- whether one of these events is a step
abbrev pub HasStepped : Bool → List Event → Type 0
HasStepped true es = HasNoStep es → ⊥
HasStepped false es = HasNoStep es

-- stream s, which may make n steps, had its turn after the events J, and whether it made a step
abbrev pub HasTurned : Parts → ℕ → ℕ → List Event → Bool → List Event → Type 0
HasTurned W n s J stepped K = (turn : List Event) × (K ≡ J ++ turn) × IsTurn W n s J turn × HasStepped stepped turn

-- the same of these streams, one after the other
abbrev pub HaveTurned : Parts → ℕ → List ℕ → List Event → Bool → List Event → Type 0
HaveTurned W n streams J stepped K = (turns : List Event) × (K ≡ J ++ turns) × AreTurnsOf W n streams J turns × HasStepped stepped turns
