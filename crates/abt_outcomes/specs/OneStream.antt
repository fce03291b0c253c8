-- Runs of one stream: when they stop, and that there is at most one run.
use Rattle.std.specs.Prelude.{ℕ, suc, ◌≡◌, ◌⊎◌, true, List, [], ◌∷◌, ◌++◌}
use Rattle.abt_machine.specs.declared.events.Event.{Event}
use Rattle.abt_machine.specs.Stored.{Stored}
use Rattle.abt_machine.specs.declared.workload.Parts.{Parts}
use Rattle.abt_machine.specs.Numbers.{stream_no}
use Rattle.abt_machine.specs.Outcomes.{Spent}
use Rattle.abt_machine.specs.Runs.{Run, last_state}
use Rattle.abt_machine.specs.Stamps.{Stamped}
use Rattle.abt_machine.specs.State.{Stream}
use Rattle.abt_laws.specs.Laws.{IsMiss}

-- Stops.

-- no scheduler is stacked, and the main scheduler's last round ended empty
abbrev pub HasEmptyRound : Stream → Type 0
HasEmptyRound own = (own.below ≡ []) × (own.top.empty ≡ true)

-- after journal J the event is a miss by which a round of stream 0's main scheduler ends empty
abbrev pub EndsRound : Parts → List Event → Event → Type 0
EndsRound W J e = IsMiss e.what × HasEmptyRound ((last_state W (J ++ e ∷ [])).stream 0)

-- the last event of the journal ended a round of the main scheduler empty
abbrev pub HasEndedEmpty : Parts → List Event → Type 0
HasEndedEmpty W J = (prefix : List Event) × (e : Event) × (J ≡ prefix ++ e ∷ []) × EndsRound W prefix e

-- one stream stops at an empty round of its main scheduler, and when it is spent: it made its n steps, and would make another
abbrev pub HasStopped : Parts → ℕ → List Event → Type 0
HasStopped W n J = HasEndedEmpty W J ⊎ Spent W n J 0

-- the journal stops, and no prefix of it did: it ends with the only empty round that it has, or spent with none
pub record GoesToItsStop (W : Parts) (n : ℕ) (J : List Event) : Type 0 where
  pub stops : HasStopped W n J
  pub not_before : (prefix rest : List Event) (e : Event) → J ≡ prefix ++ e ∷ rest → HasStopped W n prefix → ⊥

-- neither the journal nor a prefix of it stops
abbrev pub HasNotStopped : Parts → ℕ → List Event → Type 0
HasNotStopped W n J = (prefix rest : List Event) → J ≡ prefix ++ rest → HasStopped W n prefix → ⊥

-- no other stamped run goes to its stop
abbrev pub IsOnlyRun : Parts → Stored → ℕ → List Event → Type 0
IsOnlyRun W Z n J = (K : List Event) → Run W Z K → Stamped W K → GoesToItsStop W n K → K ≡ J

-- Stamps.

-- all events are of stream 0, and their stamps are t, t + 1 and so on
abbrev pub CountedFrom : ℕ → List Event → Type 0
CountedFrom t [] = Unit {0}
CountedFrom t (e ∷ es) = (e.stamp ≡ t) × (e.stream ≡ stream_no 0) × CountedFrom (suc t) es
