-- Places of a list, counted cyclically, and the places that answers choose.
use Rattle.std.specs.Prelude.{ℕ, ◌≡◌, ◌+◌, ◌-◌, ◌%◌, ◌<◌, ◌≤◌, List, length, get_or, IsPermutation}
use Rattle.std.specs.List.{range_with_len}

-- how far it is from one of n places up to another, where the first place follows the last
abbrev pub distance : ℕ → ℕ → ℕ → ℕ
distance n from to = (to + (n - from)) % n

-- no place from i on is nearer to the answer than the one at that place
abbrev pub IsNearest : ℕ → List ℕ → ℕ → ℕ → ℕ → Type 0
IsNearest n places i at answer = (k : ℕ) → i ≤ k → k < length places → distance n answer (get_or places at 0) ≤ distance n answer (get_or places k 0)

-- Place i of n has an answer, and is the first, counted cyclically from it, that stands at no earlier place.
abbrev pub HasNearestAnswer : (ℕ → ℕ → ℕ → Type 0) → ℕ → List ℕ → ℕ → Type 0
HasNearestAnswer Answers n places i = (answer : ℕ) × Answers n i answer × IsNearest n places i i answer

-- the pools in an order that answers choose for the number of pools and each place
pub record IsOrderedBy (Answers : ℕ → ℕ → ℕ → Type 0) (ps order : List ℕ) : Type 0 where
  -- the places in the list of the pools that are visited
  pub places : List ℕ
  pub permutes : IsPermutation (range_with_len 0 (length ps)) places
  pub answered : (i : ℕ) → i < length ps → HasNearestAnswer Answers (length ps) places i
  pub each : (i : ℕ) → i < length ps → get_or order i 0 ≡ get_or ps (get_or places i 0) 0
