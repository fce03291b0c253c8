-- What holds of each element of a list, and what elements are made of.
use Rattle.std.proofs.Common.{◌≡◌, ◌∙◌, ◌<◌, ℕ, zero, suc, List, [], ◌∷◌, ◌++◌, Option, Some, None, length, map, slice_get, refl, sym, ap, arith}
use Rattle.std.specs.Prelude.{option_map, slice_index}
use Rattle.std.specs.List.{All}
use Rattle.abt_generate.proofs.Lists.{Each, none-some, some-same}

-- what holds at each place
pub each-get : {A : Type 0} (P : A → Type 0) (xs : List A) → ((i : ℕ) (x : A) → slice_get xs i ≡ Some x → P x) → Each P xs
each-get P [] h = tt
each-get P (x ∷ xs) h = (h 0 x refl, each-get P xs (λ i. h (suc i)))

pub all-each : {A : Type 0} (P : A → Type 0) (xs : List A) → All P xs → Each P xs
all-each P [] h = tt
all-each P (x ∷ xs) h = (h 0 x (omega arith), all-each P xs (λ i d below. h (suc i) d (omega arith)))

-- what an element that is made of another is made of
pub mapped-some : {A B : Type 0} (f : A → B) (o : Option A) (y : B) → option_map f o ≡ Some y → (x : A) × (o ≡ Some x) × (f x ≡ y)
mapped-some f None y is = absurd (none-some is)
mapped-some f (Some x) y is = (x, refl, some-same is)

-- Two lists, one behind the other.

pub append-nil : {A : Type 0} (xs : List A) → xs ++ [] ≡ xs
append-nil [] = refl
append-nil (x ∷ xs) = ap (λ ys. x ∷ ys) (append-nil xs)

pub get-before : {A : Type 0} (xs ys : List A) (i : ℕ) → i < length xs → slice_get (xs ++ ys) i ≡ slice_get xs i
get-before [] ys i below = absurd (omega arith)
get-before (x ∷ xs) ys zero below = refl
get-before (x ∷ xs) ys (suc i) below = get-before xs ys i (omega arith)

pub get-behind : {A : Type 0} (xs : List A) (y : A) (ys : List A) → slice_get (xs ++ y ∷ ys) (length xs) ≡ Some y
get-behind [] y ys = refl
get-behind (x ∷ xs) y ys = get-behind xs y ys

pub index-before : (xs ys : List ℕ) (i : ℕ) → i < length xs → slice_index (xs ++ ys) i ≡ slice_index xs i
index-before [] ys i below = absurd (omega arith)
index-before (x ∷ xs) ys zero below = refl
index-before (x ∷ xs) ys (suc i) below = index-before xs ys i (omega arith)

-- a list is what stands at its places
pub same-places : {A : Type 0} (xs ys : List A) → length xs ≡ length ys → ((i : ℕ) (x : A) → slice_get xs i ≡ Some x → slice_get ys i ≡ Some x) → xs ≡ ys
same-places [] [] long same = refl
same-places [] (y ∷ ys) long same = absurd (omega arith)
same-places (x ∷ xs) [] long same = absurd (omega arith)
same-places (x ∷ xs) (y ∷ ys) long same =
    let here : y ≡ x = some-same (same 0 x refl) in
    let rest : xs ≡ ys = same-places xs ys (omega arith) (λ i. same (suc i)) in
    ap (λ z. z ∷ xs) (sym here) ∙ ap (λ zs. y ∷ zs) rest

-- what stands at a place of a list that is made of another
pub mapped-here : {A B : Type 0} (f : A → B) (xs : List A) (i : ℕ) (x : A) → slice_get xs i ≡ Some x → slice_get (map f xs) i ≡ Some (f x)
mapped-here f [] i x is = absurd (none-some is)
mapped-here {B = B} f (y ∷ xs) zero x is = ap (λ z. let o : Option B = Some (f z) in o) (some-same is)
mapped-here f (y ∷ xs) (suc i) x is = mapped-here f xs i x is
