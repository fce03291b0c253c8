-- Events that a search may try alone: if a stream has one event that may come, and nothing that other streams do before it makes a
-- difference to it, other streams need not be tried before it. W is a workload and Z what is stored beside it.
use Rattle.std.specs.Prelude.{ℕ, ◌≡◌, ◌≢◌, ◌<◌, ◌⊎◌, Bool, List, [], ◌∷◌, IsTrue}
use Rattle.abt_machine.specs.declared.events.Event.{Event}
use Rattle.abt_machine.specs.declared.events.What.{What}
use Rattle.abt_machine.specs.Stored.{Stored}
use Rattle.abt_machine.specs.declared.workload.Parts.{Parts}
use Rattle.abt_machine.specs.Valid.{IsValid}
use Rattle.abt_machine.specs.Rounds.{OrdersStored}
use Rattle.abt_machine.specs.Sound.{Sound}
use Rattle.abt_machine.specs.State.{State}
use Rattle.abt_machine.specs.Start.{start}
use Rattle.abt_machine.specs.Events.{May, after}
use Rattle.abt_machine.specs.Runs.{Run, RunFrom, last_state, state_after}
use Rattle.abt_machine.specs.Outcomes.{Quiet}
use Rattle.abt_laws.specs.Laws.{IsMiss}
use Rattle.abt_model.specs.Models.{IsAfter, ModelValue, StandsFor}
use Rattle.abt_explore.specs.Laws.{SeesState}
use Rattle.abt_explore.specs.Orders.{KeepsOrder}
use Rattle.abt_explore.specs.Unnumbered.{unnumbered_state}

-- for each event that may come in state S, a seen model shows what it leads to
abbrev pub AreAllTried : Parts → Stored → (ModelValue → Type 0) → State → Type 0
AreAllTried W Z IsSeen S = (s : ℕ) (w : What) → s < W.streams → May W Z S s w → SeesState W IsSeen (after W S s w)

-- none of the events is of stream s
abbrev pub IsWithout : ℕ → List Event → Type 0
IsWithout s [] = Unit {0}
IsWithout s (e ∷ es) = (e.stream.0 ≢ s) × IsWithout s es

-- in state S event v of stream r may also come after event w of stream s, with the same state after both
pub record MaySwap (W : Parts) (Z : Stored) (S : State) (s : ℕ) (w : What) (r : ℕ) (v : What) : Type 0 where
  pub may : May W Z (after W S s w) r v
  pub same : after W (after W S s w) r v ≡ after W (after W S r v) s w

-- whatever the other streams do from state S on, event w of stream s may still come, and then or before makes no difference
pub record Waits (W : Parts) (Z : Stored) (S : State) (s : ℕ) (w : What) : Type 0 where
  pub stays : (K : List Event) → IsWithout s K → RunFrom W Z S K → May W Z (state_after W S K) s w
  pub swaps : (K : List Event) (r : ℕ) (v : What) → IsWithout s K → RunFrom W Z S K → r < W.streams → r ≢ s → May W Z (state_after W S K) r v → MaySwap W Z (state_after W S K) s w r v

-- in state S stream s has one event that may come, it is no miss, and it waits
pub record IsAlone (W : Parts) (Z : Stored) (S : State) (s : ℕ) (w : What) : Type 0 where
  pub declared : s < W.streams
  pub only : (v : What) → May W Z S s v → v ≡ w
  pub no_miss : IsMiss w → ⊥
  pub waits : Waits W Z S s w

-- such an event of some stream is tried, which is alone however many rounds there were
abbrev pub IsOneTried : Parts → Stored → (ModelValue → Type 0) → State → Type 0
IsOneTried W Z IsSeen S = (s : ℕ) × (w : What) × ((T : State) → Sound W Z T → unnumbered_state T ≡ S → IsAlone W Z T s w) × SeesState W IsSeen (after W S s w)

-- in what a seen model stands for, all events are tried, or one that may be tried alone
abbrev pub AreClosedToEnds : Parts → Stored → (ModelValue → Type 0) → Type 0
AreClosedToEnds W Z IsSeen = (S : State) (model : ModelValue) → IsAfter W Z 0 S → StandsFor W S model → IsSeen model →
    AreAllTried W Z IsSeen S ⊎ IsOneTried W Z IsSeen S

-- if one of the seen models shows the start, and they are closed to ends, each run after which nothing is left to do leads to what
-- one of them shows
abbrev pub EndsAreMet : Parts → Stored → Type 0
EndsAreMet W Z = IsValid W → OrdersStored W Z.orders → KeepsOrder W Z.orders →
    (is_seen : ModelValue → Bool) → SeesState W (λ model. IsTrue (is_seen model)) (start W) → AreClosedToEnds W Z (λ model. IsTrue (is_seen model)) →
    (J : List Event) → Run W Z J → Quiet W (last_state W J) → SeesState W (λ model. IsTrue (is_seen model)) (last_state W J)
