-- Runs in rotations whose order a seed draws.
use Rattle.std.specs.Prelude.{ℕ, zero, suc, ◌≡◌, ◌⊎◌, List, [], ◌∷◌, ◌++◌}
use Rattle.abt_machine.specs.declared.events.Event.{Event}
use Rattle.abt_machine.specs.Stored.{Stored}
use Rattle.abt_machine.specs.declared.workload.Parts.{Parts}
use Rattle.abt_machine.specs.Outcomes.{Spent}
use Rattle.abt_machine.specs.Rounds.{OrdersStored}
use Rattle.abt_machine.specs.Runs.{Run}
use Rattle.abt_machine.specs.Valid.{IsValid}
use Rattle.abt_bounds.specs.Laws.{HasNoFree}
use Rattle.abt_drain.specs.InRotation.{EndsTurns, StopsBy}
use Rattle.abt_explore.specs.Laws.{AreCounted}
use Rattle.abt_schedule.specs.Drawing.{streams_of_rotation}

-- The turn of one stream.

-- these events, which follow journal J, are the turn of stream s, which may make n steps: none if it is spent, and else one and,
-- unless that ends the turn, the rest of the turn
abbrev pub IsTurn : Parts → ℕ → ℕ → List Event → List Event → Type 0
IsTurn W n s J [] = Spent W n J s
IsTurn W n s J (e ∷ es) =
    (Spent W n J s → ⊥) × (e.stream.0 ≡ s) × ((EndsTurns W s J e × (es ≡ [])) ⊎ ((EndsTurns W s J e → ⊥) × IsTurn W n s (J ++ e ∷ []) es))

-- Rotations.

-- these events, which follow J, are the turns of these streams, one after the other
abbrev pub AreTurnsOf : Parts → ℕ → List ℕ → List Event → List Event → Type 0
AreTurnsOf W n [] J es = es ≡ []
AreTurnsOf W n (s ∷ streams) J es = (turn : List Event) × (rest : List Event) × (es ≡ turn ++ rest) × IsTurn W n s J turn × AreTurnsOf W n streams (J ++ turn) rest

-- J is k rotations in the orders that the seed draws, and the run stops after none of them
abbrev pub AreDrawnRotations : Parts → ℕ → ℕ → ℕ → List Event → Type 0
AreDrawnRotations W seed n zero J = J ≡ []
AreDrawnRotations W seed n (suc k) J =
    (before : List Event) × (es : List Event) × (J ≡ before ++ es) × AreDrawnRotations W seed n k before × AreTurnsOf W n (streams_of_rotation W seed k) before es × (StopsBy W n before es → ⊥)

-- J is rotations in the orders that the seed draws, the run stops after the last of them, and the stamps count the events
pub record IsSeeded (W : Parts) (seed n : ℕ) (J : List Event) : Type 0 where
  pub many : ℕ
  pub before : List Event
  pub last : List Event
  pub all : J ≡ before ++ last
  pub rotations : AreDrawnRotations W seed n many before
  pub turns : AreTurnsOf W n (streams_of_rotation W seed many) before last
  pub stops : StopsBy W n before last
  pub counted : AreCounted J

-- Laws.

-- if no order and no function is free, a seed makes one run
abbrev pub OneRunASeed : Parts → Stored → Type 0
OneRunASeed W Z = IsValid W → OrdersStored W Z.orders → HasNoFree W Z → (seed n : ℕ) (J K : List Event) → Run W Z J → Run W Z K → IsSeeded W seed n J → IsSeeded W seed n K → J ≡ K
