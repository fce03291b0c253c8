-- Entries of lists, and marks.
use Rattle.std.proofs.Common.{◌≡◌, ◌≢◌, ℕ, zero, suc, ◌<◌, Bool, true, false, List, [], ◌∷◌, length, replicate, Some, set, get_or, get_or-set_other, get_or-set_same, refl, sym, ◌∙◌, ap, subst, arith, inl, inr}
use Rattle.std.specs.Prelude.{slice_get}
use Rattle.std.proofs.lemmas.Bool.{cases_eq, true≢false}
use Rattle.std.proofs.lemmas.Option.{slice_get-get_or}
use Rattle.abt_orderly.specs.Listing.{IsMarked}

pub get-some : {A : Type 0} (xs : List A) (k : ℕ) → k < length xs → (x : A) × (slice_get xs k ≡ Some x)
get-some [] k l = absurd (omega arith)
get-some (x ∷ xs) zero l = (x, refl)
get-some (x ∷ xs) (suc k) l = get-some xs k (omega arith)

pub get-here : {A : Type 0} (xs : List A) (k : ℕ) (y : A) → k < length xs → slice_get (set xs k y) k ≡ Some y
get-here [] k y l = absurd (omega arith)
get-here (x ∷ xs) zero y l = refl
get-here (x ∷ xs) (suc k) y l = get-here xs k y (omega arith)

pub get-other : {A : Type 0} (xs : List A) (k j : ℕ) (y : A) → j ≢ k → slice_get (set xs k y) j ≡ slice_get xs j
get-other [] k j y h = refl
get-other (x ∷ xs) zero zero y h = absurd (h refl)
get-other (x ∷ xs) zero (suc j) y h = refl
get-other (x ∷ xs) (suc k) zero y h = refl
get-other (x ∷ xs) (suc k) (suc j) y h = get-other xs k j y (λ e. h (ap (λ n. suc n) e))

-- what is read at an index
pub read-at : {A : Type 0} (xs : List A) (k : ℕ) (x : A) → k < length xs → x ≡ get_or xs k x → slice_get xs k ≡ Some x
read-at xs k x l e = slice_get-get_or xs k x l ∙ ap (λ y. Some y) (sym e)

-- is what is there, whatever stands for an entry that isn't
pub read-is : {A : Type 0} (xs : List A) (k : ℕ) (x d : A) → k < length xs → x ≡ get_or xs k x → get_or xs k d ≡ x
read-is [] k x d l e = absurd (omega arith)
read-is (y ∷ xs) zero x d l e = sym e
read-is (y ∷ xs) (suc k) x d l e = read-is xs k x d (omega arith) e

pub all-same : {A : Type 0} (n k : ℕ) (x : A) → get_or (replicate n x) k x ≡ x
all-same zero k x = refl
all-same (suc n) zero x = refl
all-same (suc n) (suc k) x = all-same n k x

-- Marks.

pub marked-here : (marks : List Bool) (n : ℕ) → n < length marks → IsMarked (set marks n true) n
marked-here marks n below = get_or-set_same marks n true false below

pub marked-still : (marks : List Bool) (n m : ℕ) → n < length marks → IsMarked marks m → IsMarked (set marks n true) m
marked-still marks n m below e =
    elim (cases_eq m n) [
      | inl same ↦ subst (IsMarked (set marks n true)) (sym same) (marked-here marks n below)
      | inr other ↦ get_or-set_other marks n m true false other ∙ e
    ]

pub was-marked : (marks : List Bool) (n m : ℕ) → m ≢ n → IsMarked (set marks n true) m → IsMarked marks m
was-marked marks n m other e = sym (get_or-set_other marks n m true false other) ∙ e

pub none-marked : (n m : ℕ) → IsMarked (replicate n false) m → ⊥
none-marked n m e = true≢false (sym e ∙ all-same n m false)
