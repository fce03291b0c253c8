-- The laws of how runs end. W is a workload and Z what is stored beside it; a law that needs it supposes that W is valid and that each user scheduler's order is stored.
use Rattle.std.specs.Prelude.{ℕ, ◌≡◌, ◌<◌, ◌≤◌, ◌↔◌, ◌⊎◌, true, false, List, [], ◌∷◌, ◌++◌, length}
use Rattle.abt_machine.specs.declared.events.Event.{Event}
use Rattle.abt_machine.specs.declared.events.Outcome.{Outcome}
use Rattle.abt_machine.specs.declared.events.Site.{Site}
use Rattle.abt_machine.specs.declared.grammar.Format.TheVariants as format
use Rattle.abt_machine.specs.Stored.{Stored}
use Rattle.abt_machine.specs.declared.workload.Parts.{Parts}
use Rattle.abt_machine.specs.Limits.{unit_limit}
use Rattle.abt_machine.specs.Valid.{IsValid}
use Rattle.abt_machine.specs.Rounds.{OrdersStored}
use Rattle.abt_machine.specs.State.{State}
use Rattle.abt_machine.specs.Next.{StepDue, due}
use Rattle.abt_machine.specs.Events.{After}
use Rattle.abt_machine.specs.Runs.{Run, RunFrom, last_state, state_after}
use Rattle.abt_machine.specs.Sound.{Sound}
use Rattle.abt_machine.specs.Outcomes.{Quiet, AllEnded, Spent, EndsAs, is_step}
use Rattle.abt_machine.specs.Stamps.{Stamped}
use Rattle.abt_machine.specs.Turns.{due_of}
use Rattle.abt_machine.specs.Values.{Held, Object, part_of}
use Rattle.abt_laws.specs.Laws.{AllMisses, IsMiss}
use Rattle.abt_laws.specs.Measure.{open_frames, state_weight}
use Rattle.abt_outcomes.specs.Values.{HaveMade, StandFor, LooksQuiet, LooksEnded, LooksSpent, LooksAs}
use Rattle.abt_bounds.specs.Laws.{HasNoFree}
use Rattle.abt_outcomes.specs.OneStream.{CountedFrom, EndsRound, GoesToItsStop, HasEndedEmpty, HasNotStopped, IsOnlyRun, HasStopped}
use Rattle.abt_outcomes.specs.Rotations.{HasEmptied, HasNoStacked, HasNoStep, IsRotation, IsWithin, MissesAll, QuietOrLess, turns_left, weight_limit, work_left}
use Rattle.abt_outcomes.specs.Measured.{frames_seen, turns_seen, weight_seen, work_seen}

-- Orders.

-- of two stored orders each user scheduler names one
abbrev pub OrdersAreStored : Parts → Stored → Type 0
OrdersAreStored W Z = IsValid W → 2 ≤ length Z.orders → OrdersStored W Z.orders

-- Values.

-- what a stream does next is decided by its part
abbrev pub PartsDecide : Parts → Type 0
PartsDecide W = (S : State) (s : ℕ) → due W S s ≡ due_of W s (part_of W S s)

-- nothing is left to do exactly if parts and objects show it
abbrev pub QuietIsSeen : Parts → Type 0
QuietIsSeen W = (S : State) (parts : ℕ → Held) (objects : Site → Object) → StandFor W S parts objects → Quiet W S ↔ LooksQuiet W parts objects

-- every unit of a sound state is unborn or ended exactly if the desks of the declared ones show it
abbrev pub EndsAreSeen : Parts → Stored → Type 0
EndsAreSeen W Z = (S : State) (parts : ℕ → Held) (objects : Site → Object) → Sound W Z S → StandFor W S parts objects → AllEnded S ↔ LooksEnded W objects

-- a stream is spent exactly if its part and the number of its steps say so
abbrev pub SpentIsSeen : Parts → Type 0
SpentIsSeen W = (n s : ℕ) (J : List Event) (parts : ℕ → Held) (objects : Site → Object) (made : ℕ → ℕ) → StandFor W (last_state W J) parts objects → HaveMade W J made →
    Spent W n J s ↔ LooksSpent W n parts made s

-- a run ended as its last state's parts and objects and the streams' numbers of steps say
abbrev pub OutcomeIsSeen : Parts → Stored → Type 0
OutcomeIsSeen W Z = IsValid W → OrdersStored W Z.orders → (n : ℕ) (J : List Event) (o : Outcome) (parts : ℕ → Held) (objects : Site → Object) (made : ℕ → ℕ) →
    Run W Z J → StandFor W (last_state W J) parts objects → HaveMade W J made → EndsAs W n J o ↔ LooksAs W n parts objects made o

-- Outcomes.

-- a run has at most one outcome
abbrev pub OutcomesAreOne : Parts → Type 0
OutcomesAreOne W = (n : ℕ) (J : List Event) (o p : Outcome) → EndsAs W n J o → EndsAs W n J p → o ≡ p

-- a run has an outcome exactly if nothing is left to do or a stream is spent
abbrev pub OutcomesCome : Parts → Stored → Type 0
OutcomesCome W Z = IsValid W → OrdersStored W Z.orders → (n : ℕ) (J : List Event) → Run W Z J → ((o : Outcome) × EndsAs W n J o) ↔ (Quiet W (last_state W J) ⊎ ((s : ℕ) × Spent W n J s))

-- One stream.

-- with one stream a run is stamped exactly if its stamps are 1, 2, 3 and so on
abbrev pub StampsCount : Parts → Stored → Type 0
StampsCount W Z = W.streams ≡ 1 → (J : List Event) → Run W Z J → Stamped W J ↔ CountedFrom 1 J

-- with one stream a run whose last event ended a round of the main scheduler empty leaves nothing to do
abbrev pub EmptyRoundsEnd : Parts → Stored → Type 0
EmptyRoundsEnd W Z = IsValid W → OrdersStored W Z.orders → W.streams ≡ 1 → (J : List Event) → Run W Z J → HasEndedEmpty W J → Quiet W (last_state W J)

-- with one stream a run that stops has an outcome
abbrev pub StopsHaveOutcomes : Parts → Stored → Type 0
StopsHaveOutcomes W Z = IsValid W → OrdersStored W Z.orders → W.streams ≡ 1 → (n : ℕ) (J : List Event) → Run W Z J → HasStopped W n J → (o : Outcome) × EndsAs W n J o

-- a journal stops when its last event ended a round of the main scheduler empty, and when its stream is spent
abbrev pub StopsAreLast : Parts → Type 0
StopsAreLast W = (n : ℕ) (J : List Event) (e : Event) → HasStopped W n (J ++ e ∷ []) ↔ (EndsRound W J e ⊎ Spent W n (J ++ e ∷ []) 0)

-- a journal without events has not stopped; one more event after which it does not stop leaves it so, and one after which it does takes it to its stop
abbrev pub StopsGrow : Parts → Type 0
StopsGrow W = (n : ℕ) → HasNotStopped W n [] ×
    ((J : List Event) (e : Event) → HasNotStopped W n J → ((HasStopped W n (J ++ e ∷ []) → ⊥) → HasNotStopped W n (J ++ e ∷ [])) × (HasStopped W n (J ++ e ∷ []) → GoesToItsStop W n (J ++ e ∷ [])))

-- with one stream and without a free order a stamped run that goes to its stop is the only one
abbrev pub StopsAreOne : Parts → Stored → Type 0
StopsAreOne W Z = IsValid W → OrdersStored W Z.orders → W.streams ≡ 1 → HasNoFree W Z → (n : ℕ) (J : List Event) → Run W Z J → Stamped W J → GoesToItsStop W n J → IsOnlyRun W Z n J

-- Rotations.

-- misses by which each stream missed each pool of its main scheduler, if no frame is stacked, leave nothing to do
abbrev pub MissesEnd : Parts → Stored → Type 0
MissesEnd W Z = IsValid W → OrdersStored W Z.orders → (S : State) (es : List Event) → Sound W Z S → RunFrom W Z S es → AllMisses es → HasNoStacked W S → MissesAll W es → Quiet W (state_after W S es)

-- misses by which a round of each main scheduler began and ended empty leave nothing to do
abbrev pub MissedRotationsEnd : Parts → Stored → Type 0
MissedRotationsEnd W Z = IsValid W → OrdersStored W Z.orders → (S : State) (es : List Event) → Sound W Z S → RunFrom W Z S es → AllMisses es → HasNoStacked W S → IsRotation W S es → Quiet W
    (state_after W S es)

-- a rotation without a step leaves nothing to do, or lowers the weight of the units, or keeps it and lowers the number of open frames
abbrev pub RotationsLower : Parts → Stored → Type 0
RotationsLower W Z = IsValid W → OrdersStored W Z.orders → (S : State) (es : List Event) → Sound W Z S → RunFrom W Z S es → HasNoStep es → IsRotation W S es → QuietOrLess W S (state_after W S es)

-- a round that ended empty within some events did so also with others before or after them
abbrev pub EmptiedGrows : Parts → Type 0
EmptiedGrows W = (s : ℕ) (S : State) (es fs : List Event) → (HasEmptied W s S es → HasEmptied W s S (es ++ fs)) × (HasEmptied W s (state_after W S es) fs → HasEmptied W s S (es ++ fs))

-- in a sound state the units' weight and the number of open frames have bounds
abbrev pub NumbersAreBounded : Parts → Stored → Type 0
NumbersAreBounded W Z = IsValid W → (S : State) → Sound W Z S → (state_weight W S ≤ weight_limit) × (open_frames W S ≤ unit_limit format.Three)

-- if no stream makes more than n steps, events among which there is a step lower the work that is left
abbrev pub StepsFall : Parts → Stored → Type 0
StepsFall W Z = IsValid W → OrdersStored W Z.orders → (n : ℕ) (J es : List Event) → Run W Z (J ++ es) → IsWithin W n (J ++ es) → HasNoStep es ⊎ (work_left W n (J ++ es) < work_left W n J)

-- events without a step do not raise it
abbrev pub OthersRaiseNone : Parts → Stored → Type 0
OthersRaiseNone W Z = IsValid W → OrdersStored W Z.orders → (n : ℕ) (J es : List Event) → Run W Z (J ++ es) → HasNoStep es → work_left W n (J ++ es) ≤ work_left W n J

-- if no stream makes more than n steps, events with a step, and a rotation without one, lower the work that is left, or leave nothing to do
abbrev pub RotationsFall : Parts → Stored → Type 0
RotationsFall W Z = IsValid W → OrdersStored W Z.orders → (n : ℕ) (J es : List Event) → Run W Z (J ++ es) → IsWithin W n (J ++ es) → (HasNoStep es → IsRotation W (last_state W J) es) →
    Quiet W (last_state W (J ++ es)) ⊎ (work_left W n (J ++ es) < work_left W n J)

-- within its turn a stream's events that are neither steps nor end a round empty lower what is left to it
abbrev pub TurnsFall : Parts → Stored → Type 0
TurnsFall W Z = IsValid W → OrdersStored W Z.orders → (S T : State) (e : Event) → Sound W Z S → After W Z S e T → is_step e.what ≡ false → (IsMiss e.what → (T.stream e.stream.0).top.empty ≡ false) →
    turns_left W T e.stream.0 < turns_left W S e.stream.0

-- after an event of a stream that is not a miss, and after a miss that ended its round empty, its round has seen no pool
abbrev pub RoundsBeginFresh : Parts → Stored → Type 0
RoundsBeginFresh W Z = IsValid W → OrdersStored W Z.orders → (S T : State) (e : Event) → Sound W Z S → After W Z S e T → (IsMiss e.what → (T.stream e.stream.0).top.empty ≡ true) →
    (T.stream e.stream.0).top.seen ≡ []

-- the round of a stream that is to make a step has seen no pool
abbrev pub StepsBeginFresh : Parts → Stored → Type 0
StepsBeginFresh W Z = (S : State) (s : ℕ) → Sound W Z S → due W S s ≡ StepDue → (S.stream s).top.seen ≡ []

-- The numbers by values.

-- in a sound state the units weigh as much as those that streams and objects hold
abbrev pub WeightIsSeen : Parts → Stored → Type 0
WeightIsSeen W Z = (S : State) (parts : ℕ → Held) (objects : Site → Object) → Sound W Z S → StandFor W S parts objects → state_weight W S ≡ weight_seen W parts objects

-- the open frames are those of the streams' parts
abbrev pub FramesAreSeen : Parts → Type 0
FramesAreSeen W = (S : State) (parts : ℕ → Held) (objects : Site → Object) → StandFor W S parts objects → open_frames W S ≡ frames_seen W parts

-- after a run the work that is left is what parts, objects and numbers of steps say
abbrev pub WorkIsSeen : Parts → Stored → Type 0
WorkIsSeen W Z = IsValid W → OrdersStored W Z.orders → (n : ℕ) (J : List Event) (parts : ℕ → Held) (objects : Site → Object) (made : ℕ → ℕ) → Run W Z J → StandFor W
    (last_state W J) parts objects → HaveMade W J made →
    work_left W n J ≡ work_seen W n parts objects made

-- what is left to a stream's turn is what parts and objects say
abbrev pub TurnsLeftAreSeen : Parts → Stored → Type 0
TurnsLeftAreSeen W Z = (S : State) (parts : ℕ → Held) (objects : Site → Object) (s : ℕ) → Sound W Z S → StandFor W S parts objects → s < W.streams → turns_left W S s ≡ turns_seen W parts objects s

-- by values before and after: if no stream makes more than n steps, events with a step, and a rotation without one, lower the work that is left, or leave nothing to do
abbrev pub SeenRotationsFall : Parts → Stored → Type 0
SeenRotationsFall W Z = IsValid W → OrdersStored W Z.orders → (n : ℕ) (J es : List Event) (parts later : ℕ → Held) (objects finals : Site → Object) (made total : ℕ → ℕ) → Run W Z (J ++ es) →
    StandFor W (last_state W J) parts objects → HaveMade W J made → StandFor W (last_state W (J ++ es)) later finals → HaveMade W (J ++ es) total →
    ((s : ℕ) → s < W.streams → total s ≤ n) → (HasNoStep es → IsRotation W (last_state W J) es) →
    LooksQuiet W later finals ⊎ (work_seen W n later finals total < work_seen W n parts objects made)
