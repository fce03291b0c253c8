-- What folds answer.
use Rattle.std.specs.Prelude.{◌≡◌, ℕ, ◌%◌, ◌^◌, ◌<◌, ◌≤◌, List, [], ◌∷◌, length, max, sum}
use Rattle.std.specs.List.{All}
use Rattle.abt_callbacks.specs.declared.fold.FoldShape.{FoldShape}
use Rattle.abt_callbacks.specs.declared.fold.FoldShape.TheVariants.{Sum, Most, First, Last, Free}

-- how many numbers are folded at most
abbrev pub number_limit : ℕ
number_limit = 4096

-- the list may be folded: it has a number, and not too many, each below 2^64
abbrev pub IsFoldable : List ℕ → Type 0
IsFoldable list = (1 ≤ length list) × (length list ≤ number_limit) × All (λ x. x < 2 ^ 64) list

-- the greatest number, 0 of an empty list
abbrev pub greatest : List ℕ → ℕ
greatest [] = 0
greatest (x ∷ xs) = max x (greatest xs)

-- the first number, 0 of an empty list
abbrev pub first_of : List ℕ → ℕ
first_of [] = 0
first_of (x ∷ xs) = x

-- the last number, the given one of an empty list
abbrev pub last_or : ℕ → List ℕ → ℕ
last_or n [] = n
last_or n (x ∷ xs) = last_or x xs

-- what a fold of this shape answers of a list: v itself if any number will do
abbrev pub folded : FoldShape → List ℕ → ℕ → ℕ
folded Sum list v = sum list % 2 ^ 64
folded Most list v = greatest list
folded First list v = first_of list
folded Last list v = last_or 0 list
folded Free list v = v

-- v is an answer of a fold of this shape: the list's sum modulo 2^64, its greatest, its first, its last, or any number
abbrev pub Folds : FoldShape → List ℕ → ℕ → Type 0
Folds shape list v = v ≡ folded shape list v
