-- Laws of a search through the states of a workload. W is a workload and Z what is stored beside it.
use Rattle.std.specs.Prelude.{ℕ, suc, ◌≡◌, ◌<◌, ◌↔◌, Bool, List, [], ◌∷◌, ◌++◌, length, IsTrue}
use Rattle.abt_machine.specs.declared.events.Event.{Event}
use Rattle.abt_machine.specs.declared.events.What.{What}
use Rattle.abt_machine.specs.Stored.{Stored}
use Rattle.abt_machine.specs.declared.workload.Parts.{Parts}
use Rattle.abt_machine.specs.Numbers.{stream_no}
use Rattle.abt_machine.specs.Valid.{IsValid}
use Rattle.abt_machine.specs.Rounds.{OrdersStored}
use Rattle.abt_machine.specs.State.{State}
use Rattle.abt_machine.specs.Start.{start}
use Rattle.abt_machine.specs.Events.{May, after}
use Rattle.abt_machine.specs.Runs.{Run, last_state}
use Rattle.abt_machine.specs.Outcomes.{AllEnded, Quiet}
use Rattle.abt_machine.specs.Stamps.{Stamped}
use Rattle.abt_machine.specs.Texts.{shown_units}
use Rattle.abt_model.specs.Models.{IsAfter, IsDone, ModelValue, StandsFor}
use Rattle.abt_explore.specs.Orders.{KeepsOrder}
use Rattle.abt_model.specs.Keys.{unnumbered_model}
use Rattle.abt_explore.specs.Unnumbered.{unnumbered_state}

-- the model stands for the state, but for the numbers of rounds
abbrev pub Shows : Parts → State → ModelValue → Type 0
Shows W S model = StandsFor W (unnumbered_state S) model

-- the stamps are t, t + 1 and so on
abbrev pub CountsFrom : ℕ → List Event → Type 0
CountsFrom t [] = Unit {0}
CountsFrom t (e ∷ es) = (e.stamp ≡ t) × CountsFrom (suc t) es

-- the stamp of each event is its number, counted from 1
abbrev pub AreCounted : List Event → Type 0
AreCounted J = CountsFrom 1 J

-- the event by which stream s goes on after journal J
abbrev pub next_event : List Event → ℕ → What → Event
next_event J s w = record { stamp = suc (length J); stream = stream_no s; what = w }

-- a run with counted stamps leads to what the model shows
pub record IsReachedBy (W : Parts) (Z : Stored) (J : List Event) (model : ModelValue) : Type 0 where
  pub run : Run W Z J
  pub counted : AreCounted J
  pub shows : Shows W (last_state W J) model

-- of the seen models one shows the state
abbrev pub SeesState : Parts → (ModelValue → Type 0) → State → Type 0
SeesState W IsSeen S = (model : ModelValue) × IsSeen model × Shows W S model

-- for each event that may come in what a seen model stands for, a seen model shows what it leads to
abbrev pub AreClosed : Parts → Stored → (ModelValue → Type 0) → Type 0
AreClosed W Z IsSeen = (S : State) (model : ModelValue) (s : ℕ) (w : What) → IsAfter W Z 0 S → StandsFor W S model → IsSeen model →
    s < W.streams → May W Z S s w → SeesState W IsSeen (after W S s w)

-- if one of the seen models shows the start, and they are closed, each run leads to what one of them shows
abbrev pub RunsAreSeen : Parts → Stored → Type 0
RunsAreSeen W Z = IsValid W → OrdersStored W Z.orders → KeepsOrder W Z.orders →
    (is_seen : ModelValue → Bool) → SeesState W (λ model. IsTrue (is_seen model)) (start W) → AreClosed W Z (λ model. IsTrue (is_seen model)) →
    (J : List Event) → Run W Z J → SeesState W (λ model. IsTrue (is_seen model)) (last_state W J)

-- a model of the start is reached by no event
abbrev pub StartIsReached : Parts → Stored → Type 0
StartIsReached W Z = (model : ModelValue) → StandsFor W (start W) model → IsReachedBy W Z [] model

-- a reached model is of a state to which events can lead
abbrev pub ReachedAreAfter : Parts → Stored → Type 0
ReachedAreAfter W Z = IsValid W → OrdersStored W Z.orders → KeepsOrder W Z.orders → (J : List Event) (model : ModelValue) → IsReachedBy W Z J model →
    IsAfter W Z 0 (unnumbered_state (last_state W J))

-- what a stream does after a reached model is reached by one event more
abbrev pub DoneIsReached : Parts → Stored → Type 0
DoneIsReached W Z = KeepsOrder W Z.orders → (J : List Event) (model new : ModelValue) (s : ℕ) (w : What) → IsReachedBy W Z J model → s < W.streams →
    IsDone W Z 0 (unnumbered_state (last_state W J)) s w new → IsReachedBy W Z (J ++ next_event J s w ∷ []) (unnumbered_model new)

-- counted stamps are stamps
abbrev pub CountedAreStamped : Parts → Type 0
CountedAreStamped W = (J : List Event) → AreCounted J → Stamped W J

-- how a state ends, and what is shown of its units, does not depend on the numbers of rounds
abbrev pub EndsHaveNoRounds : Parts → Type 0
EndsHaveNoRounds W = (S : State) →
    (Quiet W S ↔ Quiet W (unnumbered_state S)) × (AllEnded S ↔ AllEnded (unnumbered_state S)) × (shown_units W (unnumbered_state S) ≡ shown_units W S)
