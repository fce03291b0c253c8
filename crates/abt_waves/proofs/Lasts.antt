-- Last stamps of lists whose stamps rise.
use Rattle.std.proofs.Common.{ℕ, max, ◌<◌, ◌≤◌, inl, inr, List, [], ◌∷◌, ◌++◌, map, arith}
use Rattle.std.proofs.lemmas.Bool.{cases_lt}
use Rattle.abt_interleave.specs.Histories.{RisesAbove, last_from}
use Rattle.abt_interleave.proofs.Carried.{rises-last}

module _ {A : Type 0} (stamp : A → ℕ) where
  -- that of a prefix is not greater than that of the list
  pub prefix-low : (n : ℕ) (xs ys : List A) → RisesAbove n (map stamp (xs ++ ys)) → last_from n (map stamp xs) ≤ last_from n (map stamp (xs ++ ys))
  prefix-low n [] ys r = rises-last stamp n ys r
  prefix-low n (x ∷ xs) ys r = prefix-low (stamp x) xs ys r.1

pub max-low : (a b m : ℕ) → a < m → b < m → max a b < m
max-low a b m p q = elim (cases_lt a b) [ inl lt ↦ omega arith | inr le ↦ omega arith ]
