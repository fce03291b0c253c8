-- The small machine's counters behind locks: one lock for each, and one for both.
use Rattle.std.specs.Prelude.{ℕ, zero, suc, ◌<◌, Bool, true, false, List, [], ◌∷◌}
use Rattle.abt_interleave.specs.Machines.{DeedOf}
use Rattle.abt_interleave.specs.Stamps.{LeavesNoGap, AllTimed}
use Rattle.abt_interleave.specs.Lines.{CallOf, histories_of, Gone, LockLeft, WaveLeft}
use Rattle.abt_interleave.specs.Counters.{counters, zeros, adds, logs, notes, totals}

-- stream s added n to counter x, which was at what it found
abbrev pub call : ℕ → ℕ → Bool → ℕ → ℕ → CallOf counters
call stamp stream x n found = record { stamp = stamp; caller = stream; act = (x, n); answer = found }

-- A lock for each counter. The logs are those of the other example.

-- the lock of a counter
abbrev pub own_lock : Bool → Bool
own_lock x = x

-- what each stream has seen of each line in the end: stream 0 nothing of what came after its own calls
abbrev pub seen : ℕ → Bool → List (CallOf counters)
seen zero true = call 1 0 true 5 0 ∷ []
seen zero false = call 2 0 false 1 0 ∷ []
seen (suc zero) true = call 1 0 true 5 0 ∷ call 2 1 true 2 5 ∷ []
seen (suc zero) false = call 2 0 false 1 0 ∷ call 3 1 false 4 1 ∷ []
seen (suc (suc s)) x = []

-- the last stamps
abbrev pub closing : Bool → ℕ
closing true = 2
closing false = 3

-- what the laws suppose holds here, and so does what they say
pub record LocksForEach : Type 0 where
  pub gone : (s : ℕ) → s < 2 → Gone counters own_lock (λ l. 0) s 0 0 (logs s) (notes s) (seen s)
  pub left : (x : Bool) → LockLeft counters own_lock x 2 (λ s. seen s x) zeros.count totals (closing x)
  pub wave : WaveLeft counters own_lock (λ l. 0) (λ s. 0) zeros.noted zeros.count logs notes totals closing
  pub timed : (s : ℕ) → AllTimed (histories_of counters own_lock wave.lines) 0 (logs s)

-- One lock for both counters: stamps rise over all calls.

-- the lock of both
abbrev pub one_lock : Bool → Unit {0}
one_lock x = tt

abbrev pub logs_under_one : ℕ → List (DeedOf counters)
logs_under_one zero = adds 1 0 true 5 0 ∷ adds 3 0 false 1 0 ∷ []
logs_under_one (suc zero) = adds 2 1 true 2 5 ∷ adds 4 1 false 4 1 ∷ []
logs_under_one (suc (suc s)) = []

abbrev pub seen_of_one : ℕ → Unit {0} → List (CallOf counters)
seen_of_one zero l = call 1 0 true 5 0 ∷ call 2 1 true 2 5 ∷ call 3 0 false 1 0 ∷ []
seen_of_one (suc zero) l = call 1 0 true 5 0 ∷ call 2 1 true 2 5 ∷ call 3 0 false 1 0 ∷ call 4 1 false 4 1 ∷ []
seen_of_one (suc (suc s)) l = []

-- what the laws of waves suppose holds here too, and the stamps leave no gap; but they are not Lamport's: the first call of the
-- second counter has stamp 3, though one more than its stream's last stamp is 2
pub record OneLockForBoth : Type 0 where
  pub gone : (s : ℕ) → s < 2 → Gone counters one_lock (λ l. 0) s 0 0 (logs_under_one s) (notes s) (seen_of_one s)
  pub left : LockLeft counters one_lock tt 2 (λ s. seen_of_one s tt) zeros.count totals 4
  pub wave : WaveLeft counters one_lock (λ l. 0) (λ s. 0) zeros.noted zeros.count logs_under_one notes totals (λ l. 4)
  pub no_gap : LeavesNoGap logs_under_one
  pub untimed : AllTimed (histories_of counters one_lock (seen_of_one 1)) 0 (logs_under_one 0) → ⊥
