-- Histories: what an object answered, in order of stamp.
use Rattle.std.specs.Prelude.{ℕ, ◌≡◌, ◌<◌, ◌==◌, List, [], ◌∷◌, map}
use Rattle.std.specs.List.{filter}
use mathlib.Core.List.{IsPrefix}
use Rattle.abt_interleave.specs.declared.entries.Entry.{Entry}

-- Stamps are above 0, which stands for none.

-- numbers above n that rise strictly
abbrev pub RisesAbove : ℕ → List ℕ → Type 0
RisesAbove n [] = Unit {0}
RisesAbove n (t ∷ ts) = (n < t) × RisesAbove t ts

-- the last number, n if there is none
abbrev pub last_from : ℕ → List ℕ → ℕ
last_from n [] = n
last_from n (t ∷ ts) = last_from t ts

-- the last stamp, 0 if there is none
abbrev pub last_stamp : List ℕ → ℕ
last_stamp ts = last_from 0 ts

module _ {Act Answer : Type 0} where
  -- the stamps of a history
  abbrev pub entry_stamps : List (Entry Act Answer) → List ℕ
  entry_stamps history = map (λ e. e.stamp) history

  -- the calls of one caller
  abbrev pub calls_of : ℕ → List (Entry Act Answer) → List (Entry Act Answer)
  calls_of caller history = filter (λ e. e.caller == caller) history

  -- a history begins with what a caller has seen of it, and has no further call of that caller
  abbrev pub Extends : ℕ → List (Entry Act Answer) → List (Entry Act Answer) → Type 0
  Extends caller seen history = IsPrefix seen history × (calls_of caller history ≡ calls_of caller seen)

-- of objects that give an answer to an act, and are something afterwards
module _ {Object Act Answer : Type 0} (Gives : Object → Act → Answer → Object → Type 0) where
  -- the acts of these entries get these answers, one after the other, and lead from object o to q
  abbrev pub Leads : Object → List (Entry Act Answer) → Object → Type 0
  Leads o [] q = o ≡ q
  Leads o (e ∷ es) q = (m : Object) × Gives o e.act e.answer m × Leads m es q

  -- a legal history, from o to q: the answers are the object's, and the stamps rise strictly
  abbrev pub Legal : Object → List (Entry Act Answer) → Object → Type 0
  Legal o history q = RisesAbove 0 (entry_stamps history) × Leads o history q
