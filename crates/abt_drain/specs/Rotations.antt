-- Turns and rotations: what streams do one after the other.
use Rattle.std.specs.Prelude.{ℕ, ◌≡◌, ◌≢◌, ◌<◌, ◌≤◌, ◌⊎◌, Bool, true, false, List, [], ◌∷◌, ◌++◌}
use Rattle.std.specs.List.{All}
use Rattle.abt_machine.specs.declared.events.Event.{Event}
use Rattle.abt_machine.specs.declared.events.What.{What}
use Rattle.abt_machine.specs.declared.events.What.TheVariants as what
use Rattle.abt_machine.specs.declared.numbers.PoolNo.{PoolNo}
use Rattle.abt_machine.specs.Stored.{Stored}
use Rattle.abt_machine.specs.declared.workload.Parts.{Parts}
use Rattle.abt_machine.specs.Outcomes.{is_step}
use Rattle.abt_machine.specs.Runs.{last_state}
use Rattle.abt_laws.specs.Laws.{IsMiss}
use Rattle.abt_outcomes.specs.OneStream.{HasEndedEmpty, HasNotStopped}
use Rattle.abt_outcomes.specs.Rotations.{HasEmptied, HasNoStep}
use Rattle.abt_outcomes.specs.Values.{LooksQuiet, LooksSpent}
use Rattle.abt_outcomes.specs.Measured.{turns_seen, work_seen}
use Rattle.abt_drain.specs.InRotation.{AreRotations, AreTurns, AreTurnsBelow, NoneEndsTurns, events_by}
use Rattle.abt_drain.specs.Moments.{LeadTo, Makes, Moment, Stays, event_at, made_at}

-- stream s has made its n steps, and would make another
abbrev pub IsSpentIn : Parts → ℕ → Moment → ℕ → Type 0
IsSpentIn W n m s = LooksSpent W n m.parts (made_at m) s

-- nothing is left to do
abbrev pub IsQuietIn : Parts → Moment → Type 0
IsQuietIn W m = LooksQuiet W m.parts m.objects

-- the round of stream s has seen no pool
abbrev pub HasSeenNone : Moment → ℕ → Type 0
HasSeenNone m s = (m.parts s).own.top.seen ≡ []

-- the last round of the top frame of stream s ended empty, and so the last event of its log is a miss
pub record LastRoundIsEmpty (m : Moment) (s : ℕ) : Type 0 where
  pub before : List Event
  pub pool : PoolNo
  pub log : m.logs s ≡ before ++ event_at m s (what.Miss pool) ∷ []
  pub empty : (m.parts s).own.top.empty ≡ true

-- Turns.

-- stream s made a step
pub record MakesStep (W : Parts) (Z : Stored) (s : ℕ) (old new : Moment) : Type 0 where
  pub what : What
  pub makes : Makes W Z s what old new
  pub step : is_step what ≡ true

-- stream s missed the last pool of a round, which so ended empty
pub record EndsRoundAt (W : Parts) (Z : Stored) (s : ℕ) (old new : Moment) : Type 0 where
  pub pool : PoolNo
  pub makes : Makes W Z s (what.Miss pool) old new
  pub empty : (new.parts s).own.top.empty ≡ true

-- stream s made another event
pub record MakesMove (W : Parts) (Z : Stored) (s : ℕ) (old new : Moment) : Type 0 where
  pub what : What
  pub makes : Makes W Z s what old new
  pub other : is_step what ≡ false
  pub goes_on : IsMiss what → (new.parts s).own.top.empty ≡ false

-- Events that lead on.

-- these events lead from one moment to the other
abbrev pub Lead : Parts → Stored → Moment → List Event → Moment → Type 0
Lead W Z old es new = (J : List Event) → LeadTo W Z J old → LeadTo W Z (J ++ es) new

-- within these events from the moment on a round of stream s ends empty
abbrev pub Empties : Parts → Stored → Moment → List Event → ℕ → Type 0
Empties W Z old es s = (J : List Event) → LeadTo W Z J old → HasEmptied W s (last_state W J) es

-- each stream's log grew by its own of these events
abbrev pub AreLogged : Moment → List Event → Moment → Type 0
AreLogged old es new = (s : ℕ) → new.logs s ≡ old.logs s ++ events_by s es

-- stream s went on by events that are not steps, none of which ends its turns
pub record MovesOn (W : Parts) (Z : Stored) (s : ℕ) (old new : Moment) : Type 0 where
  pub events : List Event
  pub lead : Lead W Z old events new
  pub logged : AreLogged old events new
  pub own : All (λ (e : Event). e.stream.0 ≡ s) events
  pub none : (J : List Event) → LeadTo W Z J old → NoneEndsTurns W s J events
  pub no_step : HasNoStep events
  pub others : (r : ℕ) → s ≢ r → Stays old new r

-- stream s had its turns, and whether the last was a step; else it ended a round empty, or is spent
pub record HasTurned (W : Parts) (Z : Stored) (n s : ℕ) (old : Moment) (stepped : Bool) (new : Moment) : Type 0 where
  pub events : List Event
  pub lead : Lead W Z old events new
  pub logged : AreLogged old events new
  pub turns : (J : List Event) → LeadTo W Z J old → AreTurns W n s J events
  pub no_step : stepped ≡ false → HasNoStep events
  pub step : stepped ≡ true → HasNoStep events → ⊥
  pub emptied : stepped ≡ false → (Empties W Z old events s × LastRoundIsEmpty new s) ⊎ IsSpentIn W n new s
  pub fresh : HasSeenNone new s
  pub others : (r : ℕ) → s ≢ r → Stays old new r

-- the streams below s had their turns since the first moment, and whether one of them made a step
pub record HaveTurned (W : Parts) (Z : Stored) (n s : ℕ) (old : Moment) (stepped : Bool) (new : Moment) : Type 0 where
  pub events : List Event
  pub lead : Lead W Z old events new
  pub logged : AreLogged old events new
  pub turns : (J : List Event) → LeadTo W Z J old → AreTurnsBelow W n s J events
  pub no_step : stepped ≡ false → HasNoStep events
  pub step : stepped ≡ true → HasNoStep events → ⊥
  pub emptied : stepped ≡ false → (r : ℕ) → r < s → (Empties W Z old events r × LastRoundIsEmpty new r) ⊎ IsSpentIn W n new r
  pub fresh : (r : ℕ) → r < s → HasSeenNone new r
  pub others : (r : ℕ) → s ≤ r → Stays old new r

-- the streams came to the moment by rotations, after none of which the run stops
pub record HaveRotated (W : Parts) (Z : Stored) (n : ℕ) (m : Moment) : Type 0 where
  pub many : ℕ
  pub events : List Event
  pub lead : LeadTo W Z events m
  pub logs : (s : ℕ) → events_by s events ≡ m.logs s
  pub rotations : AreRotations W n many events

-- What is left to do.

-- to all streams
abbrev pub work_at : Parts → ℕ → Moment → ℕ
work_at W n m = work_seen W n m.parts m.objects (made_at m)

-- to the turn of stream s
abbrev pub turns_at : Parts → Moment → ℕ → ℕ
turns_at W m s = turns_seen W m.parts m.objects s

-- One stream.

-- the only stream of a workload ended a round empty, or is spent
abbrev pub IsAtStop : Parts → ℕ → Moment → Type 0
IsAtStop W n m = W.streams ≡ 1 → LastRoundIsEmpty m 0 ⊎ IsSpentIn W n m 0

-- the journal has no event, or no proper prefix of it stops
abbrev pub HasNotStoppedBefore : Parts → ℕ → List Event → Type 0
HasNotStoppedBefore W n J = (J ≡ []) ⊎ ((before : List Event) × (e : Event) × (J ≡ before ++ e ∷ []) × HasNotStopped W n before)

-- the log of a workload's only stream has not stopped before its last event
abbrev pub IsGoing : Parts → ℕ → Moment → Type 0
IsGoing W n m = W.streams ≡ 1 → HasNotStoppedBefore W n (m.logs 0)

-- nor has it ended in an empty round of the main scheduler
abbrev pub IsAwake : Parts → Moment → Type 0
IsAwake W m = W.streams ≡ 1 → HasEndedEmpty W (m.logs 0) → ⊥
