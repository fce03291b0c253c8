-- What contracts see of all streams with the objects that they share.
use Rattle.std.specs.Prelude.{ℕ, ◌≡◌, ◌^◌, ◌⊎◌, ⊤, Bool, true, false, List, [], ◌∷◌, ◌++◌, length, slice_get, Option, None, Some}
use Rattle.abt_machine.specs.declared.events.Event.{Event}
use Rattle.abt_machine.specs.declared.events.Outcome.{Outcome}
use Rattle.abt_machine.specs.declared.events.Site.{Site}
use Rattle.abt_machine.specs.declared.events.What.{What}
use Rattle.abt_machine.specs.declared.events.What.TheVariants as what
use Rattle.abt_machine.specs.declared.numbers.PoolNo.{PoolNo}
use Rattle.abt_machine.specs.Stored.{Stored}
use Rattle.abt_machine.specs.declared.workload.Parts.{Parts}
use Rattle.abt_machine.specs.Gives.{SiteGives}
use Rattle.abt_machine.specs.Next.{StepDue}
use Rattle.abt_machine.specs.Numbers.{stream_no}
use Rattle.abt_machine.specs.Outcomes.{is_step, steps_in}
use Rattle.abt_machine.specs.Rounds.{OrdersStored}
use Rattle.abt_machine.specs.Turns.{Heard, Steps, due_of}
use Rattle.abt_machine.specs.Valid.{IsValid}
use Rattle.abt_calls.specs.Starts.{start_part}
use Rattle.abt_interleave.specs.Deeds.{Answered}
use Rattle.abt_commons.specs.Held.{ObjectsValue, clock_at, object_at}
use Rattle.abt_laws.specs.Laws.{IsMiss}
use Rattle.abt_outcomes.specs.Values.{LooksAs}
use Rattle.abt_stream.specs.Streams.{FitsShapes, FitsStream, StreamValue}
use Rattle.abt_stream.specs.declared.turns.Turn.{Turn}
use Rattle.abt_stream.specs.declared.turns.Turn.TheVariants as turn
use Rattle.abt_drain.specs.Looks.{AreStreams, EndedWith, parts_held}
use Rattle.abt_drain.specs.Moments.{IsReachedMoment, Moment, SetsClock, made_at, stamp_by}
use Rattle.abt_drain.specs.Rotations.{EndsRoundAt, HaveRotated, HaveTurned, IsAwake, IsGoing, IsSpentIn, MakesMove, MakesStep}

-- the workload, how many steps each stream may make, whether the streams keep their events in memory, the objects, and the
-- streams in order of number
pub record CrewValue : Type 0 where
  pub workload : Parts
  pub steps : ℕ
  pub keeps : Bool
  pub objects : ObjectsValue
  pub streams : List StreamValue

-- each of these streams keeps its events in memory, or none does
abbrev pub AllKeep : Bool → List StreamValue → Type 0
AllKeep keeps streams = (s : ℕ) (stream : StreamValue) → slice_get streams s ≡ Some stream → stream.keeps ≡ keeps

abbrev pub log_from : Option StreamValue → List Event
log_from None = []
log_from (Some stream) = stream.log

abbrev pub stream_clock : Option StreamValue → ℕ
stream_clock None = 0
stream_clock (Some stream) = stream.clock

-- the moment of a run of W at which streams and objects are so
abbrev pub moment_of : Parts → List StreamValue → ObjectsValue → Moment
moment_of W streams objects = record {
  parts = parts_held W streams;
  logs = λ s. log_from (slice_get streams s);
  clocks = λ s. stream_clock (slice_get streams s);
  objects = object_at objects;
  times = clock_at objects;
}

abbrev pub moment_in : Parts → CrewValue → Moment
moment_in W crew = moment_of W crew.streams crew.objects

-- a crew of a valid W with these stored orders, whose streams may make n steps, at a moment that its run has reached
pub record IsCrew (W : Parts) (Z : Stored) (n : ℕ) (crew : CrewValue) : Type 0 where
  pub valid : IsValid W
  pub stored : OrdersStored W Z.orders
  pub workload : crew.workload ≡ W
  pub steps : crew.steps ≡ n
  pub objects : crew.objects.workload ≡ W
  pub kept : AllKeep crew.keeps crew.streams
  pub streams : AreStreams W n crew.streams
  pub shapes : (s : ℕ) (stream : StreamValue) → slice_get crew.streams s ≡ Some stream → FitsShapes W Z stream
  pub reached : IsReachedMoment W Z n (moment_in W crew)
  pub going : IsGoing W n (moment_in W crew)

-- One stream.

-- one event of a stream, over objects that answer it
pub record Advances (W : Parts) (Z : Stored) (old : StreamValue) (before : ObjectsValue) (w : What) (new : StreamValue) (after : ObjectsValue) : Type 0 where
  pub heard : Option Heard
  pub steps : Steps W Z old.number.0 old.held w heard new.held
  pub answered : Answered SiteGives (object_at before) heard (object_at after)
  pub clock : new.clock ≡ stamp_by old.clock (clock_at before) heard
  pub times : SetsClock (clock_at before) heard new.clock (clock_at after)
  pub log : new.log ≡ old.log ++ record { stamp = new.clock; stream = old.number; what = w } ∷ []

-- a turn of a stream, by its answer; it is worn only if its own clock or that of an object is at its end
abbrev pub TurnsBy : Parts → Stored → StreamValue → ObjectsValue → Turn → StreamValue → ObjectsValue → Type 0
TurnsBy W Z old before turn.Stepped new after = (w : What) × Advances W Z old before w new after × (is_step w ≡ true)
TurnsBy W Z old before turn.EmptyRound new after = (p : PoolNo) × Advances W Z old before (what.Miss p) new after × (new.held.own.top.empty ≡ true)
TurnsBy W Z old before turn.Moved new after =
    (w : What) × Advances W Z old before w new after × (is_step w ≡ false) × (IsMiss w → new.held.own.top.empty ≡ false)
TurnsBy W Z old before turn.Spent new after =
    (due_of W old.number.0 old.held ≡ StepDue) × (steps_in old.log ≡ old.budget) × (new.held ≡ old.held) × (new.log ≡ old.log) × (new.clock ≡ old.clock) × (after ≡ before)
TurnsBy W Z old before turn.Worn new after = ((old.clock ≡ 2 ^ 62) ⊎ ((x : Site) × (clock_at before x ≡ 2 ^ 62))) × (new.log ≡ old.log)

-- All streams.

-- a turn of stream s, by its answer: no turn is worn
abbrev pub TurnBy : Parts → Stored → ℕ → ℕ → Moment → Turn → Moment → Type 0
TurnBy W Z n s old turn.Stepped new = MakesStep W Z s old new
TurnBy W Z n s old turn.EmptyRound new = EndsRoundAt W Z s old new
TurnBy W Z n s old turn.Moved new = MakesMove W Z s old new
TurnBy W Z n s old turn.Spent new = IsSpentIn W n old s × (new ≡ old)
TurnBy W Z n s old turn.Worn new = ⊥

-- an only stream stays awake, unless its round ended empty
abbrev pub StaysAwake : Parts → Turn → Moment → Type 0
StaysAwake W turn.Stepped m = IsAwake W m
StaysAwake W turn.EmptyRound m = ⊤
StaysAwake W turn.Moved m = IsAwake W m
StaysAwake W turn.Spent m = IsAwake W m
StaysAwake W turn.Worn m = ⊤

-- the streams stopped after rotations: the last made no step, and the run ended so
pub record HaveStopped (W : Parts) (Z : Stored) (n : ℕ) (m : Moment) (o : Outcome) : Type 0 where
  pub before : Moment
  pub rotated : HaveRotated W Z n before
  pub turned : HaveTurned W Z n W.streams before false m
  pub looks : LooksAs W n m.parts m.objects (made_at m) o

-- The start.

-- stream s at the start, which may make n steps
pub record IsStarted (W : Parts) (n s : ℕ) (stream : StreamValue) : Type 0 where
  pub number : stream.number ≡ stream_no s
  pub budget : stream.budget ≡ n
  pub clock : stream.clock ≡ 0
  pub held : stream.held ≡ start_part W s
  pub log : stream.log ≡ []
  pub order : stream.order ≡ []
  pub fits : FitsStream W stream

-- the first k streams at the start, in order of number
pub record AreStarted (W : Parts) (n k : ℕ) (streams : List StreamValue) : Type 0 where
  pub many : length streams ≡ k
  pub own : (s : ℕ) (stream : StreamValue) → slice_get streams s ≡ Some stream → IsStarted W n s stream

-- The end.

-- the run ended so, by a rotation without a step, or it goes on
abbrev pub IsEnd : Parts → ℕ → CrewValue → Bool → Option Outcome → Type 0
IsEnd W n crew stepped (Some o) = (stepped ≡ false) × EndedWith W n crew.streams crew.objects (Some o)
IsEnd W n crew stepped None = (stepped ≡ true) ⊎ EndedWith W n crew.streams crew.objects None
