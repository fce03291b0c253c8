-- Runs that one caller makes in rotation: the turns of one stream after those of the other, in order of number, and so again.
use Rattle.std.specs.Prelude.{ℕ, zero, suc, ◌≡◌, ◌⊎◌, true, List, [], ◌∷◌, ◌++◌}
use Rattle.std.specs.List.{All}
use Rattle.abt_machine.specs.declared.events.Event.{Event}
use Rattle.abt_machine.specs.Stored.{Stored}
use Rattle.abt_machine.specs.declared.workload.Parts.{Parts}
use Rattle.abt_machine.specs.Outcomes.{Quiet, Spent, is_step}
use Rattle.abt_machine.specs.Runs.{Run, last_state}
use Rattle.abt_interleave.specs.Merges.{of_stream}
use Rattle.abt_outcomes.specs.Rotations.{EndsEmpty, HasNoStep}

-- the events of stream s
abbrev pub events_by : ℕ → List Event → List Event
events_by s J = of_stream (λ e. e.stream.0) s J

-- The turns of one stream.

-- the event, which follows journal J, ends the turns of stream s: it is a step, or a miss by which a round ends empty
abbrev pub EndsTurns : Parts → ℕ → List Event → Event → Type 0
EndsTurns W s J e = (is_step e.what ≡ true) ⊎ EndsEmpty s e (last_state W (J ++ e ∷ []))

-- none of these events, which follow J, does
abbrev pub NoneEndsTurns : Parts → ℕ → List Event → List Event → Type 0
NoneEndsTurns W s J [] = Unit {0}
NoneEndsTurns W s J (e ∷ es) = (EndsTurns W s J e → ⊥) × NoneEndsTurns W s (J ++ e ∷ []) es

-- the last of these events, which follow J, does, and no other
pub record LastEndsTurns (W : Parts) (s : ℕ) (J es : List Event) : Type 0 where
  pub before : List Event
  pub last : Event
  pub all : es ≡ before ++ last ∷ []
  pub none : NoneEndsTurns W s J before
  pub ends : EndsTurns W s (J ++ before) last

-- none of them does, and after them the stream, which may make n steps, is spent
pub record SpentEndsTurns (W : Parts) (n s : ℕ) (J es : List Event) : Type 0 where
  pub none : NoneEndsTurns W s J es
  pub spent : Spent W n (J ++ es) s

-- these events, which follow J, are the turns of stream s
pub record AreTurns (W : Parts) (n s : ℕ) (J es : List Event) : Type 0 where
  pub own : All (λ (e : Event). e.stream.0 ≡ s) es
  pub ended : LastEndsTurns W s J es ⊎ SpentEndsTurns W n s J es

-- Rotations.

-- these events, which follow J, are the turns of the streams below k, in order of number
abbrev pub AreTurnsBelow : Parts → ℕ → ℕ → List Event → List Event → Type 0
AreTurnsBelow W n zero J es = es ≡ []
AreTurnsBelow W n (suc k) J es = (before : List Event) × (turns : List Event) × (es ≡ before ++ turns) × AreTurnsBelow W n k J before × AreTurns W n k (J ++ before) turns

-- after this rotation, which follows J, the run stops: no event of it is a step, and nothing is left to do or a stream is spent
pub record StopsBy (W : Parts) (n : ℕ) (J es : List Event) : Type 0 where
  pub no_step : HasNoStep es
  pub over : Quiet W (last_state W (J ++ es)) ⊎ ((s : ℕ) × Spent W n (J ++ es) s)

-- J is k rotations of all streams, and the run stops after none of them
abbrev pub AreRotations : Parts → ℕ → ℕ → List Event → Type 0
AreRotations W n zero J = J ≡ []
AreRotations W n (suc k) J =
    (before : List Event) × (es : List Event) × (J ≡ before ++ es) × AreRotations W n k before × AreTurnsBelow W n W.streams before es × (StopsBy W n before es → ⊥)

-- the events of J, in the order in which they were made, are a run in rotation, which stops after its last rotation: J has the same events of each stream
pub record IsMadeInRotation (W : Parts) (Z : Stored) (n : ℕ) (J : List Event) : Type 0 where
  pub many : ℕ
  pub before : List Event
  pub last : List Event
  pub run : Run W Z (before ++ last)
  pub same : (s : ℕ) → events_by s (before ++ last) ≡ events_by s J
  pub rotations : AreRotations W n many before
  pub turns : AreTurnsBelow W n W.streams before last
  pub stops : StopsBy W n before last
