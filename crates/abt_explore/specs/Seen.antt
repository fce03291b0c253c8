-- Sets of keys.
use Rattle.std.specs.Prelude.{ℕ, ◌≡◌, ◌⊎◌, Bool, List, true}
use Rattle.std.specs.Bool.{nat_eq}
use Rattle.std.specs.Cmp.Lexicographic.{pointwise}
use Rattle.std.specs.HashSet.{contains_by}
use Rattle.abt_explore.specs.declared.seen.Seen.{Seen}

-- whether the set has the key
abbrev pub has : Seen → List ℕ → Bool
has seen key = contains_by (λ k. pointwise nat_eq key k.items) seen.keys

-- the set has the key, what it had, and nothing else
pub record IsAdded (key : List ℕ) (old new : Seen) : Type 0 where
  pub added : has new key ≡ true
  pub kept : (other : List ℕ) → has old other ≡ true → has new other ≡ true
  pub only : (other : List ℕ) → has new other ≡ true → (has old other ≡ true) ⊎ (other ≡ key)
