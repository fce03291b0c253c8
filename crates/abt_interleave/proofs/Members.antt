-- Members of a list, by recursion on it.
use Rattle.std.proofs.Common.{◌≡◌, ◌⊎◌, inl, inr, List, [], ◌∷◌, refl, sym, subst, arith}
use Rattle.std.specs.Prelude.{All, Contains}
use Rattle.std.proofs.lemmas.List.Elements.{All-nil, All-cons, All-weaker, All-contains, Contains-get_or, Contains-append_right}

abbrev pub Among : {A : Type 0} → A → List A → Type 0
Among a [] = ⊥
Among a (x ∷ xs) = (a ≡ x) ⊎ Among a xs

all-among : {A : Type 0} (xs : List A) → All (λ y. Among y xs) xs
all-among [] = All-nil _
all-among (x ∷ xs) = All-cons (λ y. Among y (x ∷ xs)) x xs (inl refl) (All-weaker (λ y. Among y xs) (λ y. Among y (x ∷ xs)) (λ y m. inr m) xs (all-among xs))

pub to-among : {A : Type 0} (xs : List A) (x : A) → Contains xs x → Among x xs
to-among xs x c = All-contains (λ y. Among y xs) xs x (all-among xs) c

pub from-among : {A : Type 0} (xs : List A) (x : A) → Among x xs → Contains xs x
from-among [] x m = absurd m
from-among (y ∷ ys) x m = elim m [
  | inl e ↦ subst (Contains (y ∷ ys)) (sym e) (Contains-get_or (y ∷ ys) 0 y (omega arith))
  | inr n ↦ Contains-append_right (y ∷ []) ys x (from-among ys x n)
]

-- what holds of each member
pub all-from-among : {A : Type 0} (P : A → Type 0) (xs : List A) → ((x : A) → Among x xs → P x) → All P xs
all-from-among P [] h = All-nil P
all-from-among P (x ∷ xs) h = All-cons P x xs (h x (inl refl)) (all-from-among P xs (λ y m. h y (inr m)))
