-- What holds of each element of a list, as one tuple for a list that is written out.
use Rattle.std.proofs.Common.{◌≡◌, ℕ, zero, suc, ◌≤◌, ◌+◌, ◌*◌, List, [], ◌∷◌, ◌++◌, Option, Some, None, length, map, slice_get, refl, sym, ap, ◌∙◌, subst, append_assoc, arith, length-append}
use Rattle.std.specs.Prelude.{All, AllPairs, flat_map, ⊤}
use Rattle.std.specs.List.{range_with_len}
use Rattle.std.proofs.lemmas.List.FromFn.{map-range_with_len_more}
use Rattle.std.proofs.lemmas.List.Kept.{AllPairs-cons}

abbrev pub Each : {A : Type 0} → (A → Type 0) → List A → Type 0
Each P [] = ⊤
Each P (x ∷ xs) = P x × Each P xs

abbrev pub EachPair : {A : Type 0} → (A → A → Type 0) → List A → Type 0
EachPair R [] = ⊤
EachPair R (x ∷ xs) = Each (R x) xs × EachPair R xs

pub each-append : {A : Type 0} (P : A → Type 0) (xs ys : List A) → Each P xs → Each P ys → Each P (xs ++ ys)
each-append P [] ys h k = k
each-append P (x ∷ xs) ys h k = (h.0, each-append P xs ys h.1 k)

pub each-map : {A B : Type 0} (P : B → Type 0) (f : A → B) (xs : List A) → Each (λ x. P (f x)) xs → Each P (map f xs)
each-map P f [] h = tt
each-map P f (x ∷ xs) h = (h.0, each-map P f xs h.1)

pub each-always : {A : Type 0} (P : A → Type 0) → ((x : A) → P x) → (xs : List A) → Each P xs
each-always P h [] = tt
each-always P h (x ∷ xs) = (h x, each-always P h xs)

pub each-all : {A : Type 0} (P : A → Type 0) (xs : List A) → Each P xs → All P xs
each-all P [] h i d below = absurd (omega arith)
each-all P (x ∷ xs) h zero d below = h.0
each-all P (x ∷ xs) h (suc i) d below = each-all P xs h.1 i d (omega arith)

pub each-pairs : {A : Type 0} (R : A → A → Type 0) (xs : List A) → EachPair R xs → AllPairs R xs
each-pairs R [] h = λ i j d before below. absurd (omega arith)
each-pairs R (x ∷ xs) h = AllPairs-cons R x xs (each-all (R x) xs h.0) (each-pairs R xs h.1)

pub some-same : {A : Type 0} {x y : A} → ◌≡◌ {A = Option A} (Some x) (Some y) → x ≡ y
some-same {A} {x} {y} e = ap (λ (o : Option A). elim o as (λ p. A) [ None ↦ x | Some z ↦ z ]) e

pub none-some : {A : Type 0} {y : A} → ◌≡◌ {A = Option A} None (Some y) → ⊥
none-some {A} e = subst (λ (o : Option A). elim o as (λ p. Type 0) [ None ↦ ⊤ | Some z ↦ ⊥ ]) e tt

-- of the element at a place
pub each-at : {A : Type 0} (P : A → Type 0) (xs : List A) → Each P xs → (i : ℕ) (x : A) → slice_get xs i ≡ Some x → P x
each-at P [] h i x is = absurd (none-some is)
each-at P (y ∷ xs) h zero x is = subst P (some-same is) h.0
each-at P (y ∷ xs) h (suc i) x is = each-at P xs h.1 i x is

pub flat_map-nothing : {A B : Type 0} (f : A → List B) (xs : List A) → Each (λ x. f x ≡ []) xs → flat_map f xs ≡ []
flat_map-nothing f [] h = refl
flat_map-nothing f (x ∷ xs) h = ap (λ ys. ys ++ flat_map f xs) h.0 ∙ flat_map-nothing f xs h.1

pub length-flat_map-most : {A B : Type 0} (f : A → List B) (most : ℕ) (xs : List A) → Each (λ x. length (f x) ≤ most) xs → length (flat_map f xs) ≤ length xs * most
length-flat_map-most f most [] h = omega arith
length-flat_map-most f most (x ∷ xs) h =
    let rest : length (flat_map f xs) ≤ length xs * most = length-flat_map-most f most xs h.1 in
    let here : length (f x) ≤ most = h.0 in
    let all : length (f x ++ flat_map f xs) ≡ length (f x) + length (flat_map f xs) = length-append (f x) (flat_map f xs) in
    let more : suc (length xs) * most ≡ length xs * most + most = omega arith in
    omega arith

-- a list that goes through the numbers from 1 on has one number more
pub map-range_more : {A : Type 0} (f : ℕ → A) (before now next : List A) (k : ℕ) (x : A) → now ≡ before ++ map f (range_with_len 1 k) → next ≡ now ++ x ∷ [] → x ≡ f (k + 1) → next ≡ before ++ map f (range_with_len 1 (k + 1))
map-range_more f before now next k x e is same =
    is ∙ (ap (λ xs. xs ++ x ∷ []) e ∙ (append_assoc before (map f (range_with_len 1 k)) (x ∷ []) ∙ (ap (λ y. before ++ (map f (range_with_len 1 k) ++ y ∷ [])) same ∙ ap (λ xs. before ++ xs) (sym (map-range_with_len_more f 1 k (k + 1) (omega arith))))))
