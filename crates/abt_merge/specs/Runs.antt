-- The run of events that come one after the other from one log.
use Rattle.std.specs.Prelude.{ℕ, ◌≡◌, ◌<◌, ◌≤◌, ◌^◌, List, [], ◌∷◌, ◌++◌, Option, Some, None}
use Rattle.std.specs.List.{All}
use Rattle.abt_machine.specs.declared.events.Event.{Event}
use Rattle.abt_interleave.specs.Logs.{IsSooner}
use Rattle.abt_merge.specs.Heads.{IsAhead}

-- the bound comes before the event with stamp t of stream s
abbrev pub IsPast : Option (ℕ × ℕ) → ℕ → ℕ → Type 0
IsPast None t s = ⊥
IsPast (Some bound) t s = IsSooner bound.0 bound.1 t s

-- an event of the same stream as this one comes before the bound if its stamp is at most the last, and else behind it
pub record IsLast (first : ℕ × ℕ) (bound : Option (ℕ × ℕ)) (last : ℕ) : Type 0 where
  pub this : first.0 ≤ last
  pub ahead : (t : ℕ) → t ≤ last → IsAhead (t, first.1) bound
  pub past : (t : ℕ) → last < t → t < 2 ^ 64 → IsPast bound t first.1

-- a log begins beyond this stamp, if it has an event
abbrev pub BeginsBeyond : ℕ → List Event → Type 0
BeginsBeyond last [] = Unit {0}
BeginsBeyond last (e ∷ es) = (last < e.stamp) × (e.stamp < 2 ^ 64)

-- the events of a log up to a stamp, and what is left of it
pub record IsRun (last : ℕ) (log run left : List Event) : Type 0 where
  pub whole : log ≡ run ++ left
  pub within : All (λ e. e.stamp ≤ last) run
  pub beyond : BeginsBeyond last left
