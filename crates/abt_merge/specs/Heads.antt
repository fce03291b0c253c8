-- Which stream's next event comes first. What is left of the logs is a list of logs too.
use Rattle.std.specs.Prelude.{ℕ, ◌≡◌, ◌≢◌, ◌<◌, Bool, true, cond, List, [], ◌∷◌, Option, Some, None, length, nat_lt}
use Rattle.abt_machine.specs.declared.events.Event.{Event}
use Rattle.abt_interleave.specs.Logs.{IsSooner}
use Rattle.abt_merge.specs.Logs.{log_of}

-- stamp and stream of the first event of a log of stream s, if it has one
abbrev pub head_of : ℕ → List Event → Option (ℕ × ℕ)
head_of s [] = None
head_of s (e ∷ es) = Some (e.stamp, s)

-- the event with this stamp and stream comes before the other one, if there is one
abbrev pub IsAhead : ℕ × ℕ → Option (ℕ × ℕ) → Type 0
IsAhead first None = Unit {0}
IsAhead first (Some other) = IsSooner first.0 first.1 other.0 other.1

-- of the first n streams but one, this is stamp and stream of the event that comes first
pub record IsFirst (rests : List (List Event)) (n but : ℕ) (first : ℕ × ℕ) : Type 0 where
  pub within : first.1 < n
  pub other : first.1 ≢ but
  pub head : head_of first.1 (log_of rests first.1) ≡ Some first
  pub ahead : (r : ℕ) → r < n → r ≢ but → r ≢ first.1 → IsAhead first (head_of r (log_of rests r))

-- the same, if one of these streams has an event
abbrev pub FirstOf : List (List Event) → ℕ → ℕ → Option (ℕ × ℕ) → Type 0
FirstOf rests n but None = (r : ℕ) → r < n → r ≢ but → head_of r (log_of rests r) ≡ None
FirstOf rests n but (Some first) = IsFirst rests n but first

-- the same of all streams but one
abbrev pub FirstBut : List (List Event) → ℕ → Option (ℕ × ℕ) → Type 0
FirstBut rests but first = FirstOf rests (length rests) but first

-- whether an event with stamp t comes before the one that comes first of the streams before its own
abbrev pub is_sooner : ℕ → Option (ℕ × ℕ) → Bool
is_sooner t None = true
is_sooner t (Some first) = nat_lt t first.0

-- the sooner one of the event that comes first of the streams before, and of the first one of the next stream
abbrev pub sooner_of : Option (ℕ × ℕ) → Option (ℕ × ℕ) → Option (ℕ × ℕ)
sooner_of first None = first
sooner_of first (Some head) = cond (is_sooner head.0 first) (Some head) first
