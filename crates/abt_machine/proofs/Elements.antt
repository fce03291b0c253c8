-- What holds of each element of a list, by place and by image.
use Rattle.std.proofs.Common.{◌≡◌, ◌≢◌, ◌<◌, ◌∙◌, ℕ, zero, suc, List, [], ◌∷◌, ◌++◌, Option, Some, None, arith, get_or, length, map, refl, slice_get, subst, sym}
use Rattle.std.specs.Prelude.{All, AllPairs}
use Rattle.std.proofs.lemmas.List.{length-map}
use Rattle.std.proofs.lemmas.List.Elements.{All-cons, All-head, All-nil, All-tail}
use Rattle.std.proofs.lemmas.Option.{get_or_from_slice_get, slice_get-get_or, slice_get_within}
use Rattle.abt_machine.specs.declared.numbers.PoolNo.{PoolNo}
use Rattle.abt_machine.specs.Monitors.{rest}
use Rattle.abt_machine.specs.Queues.{first_alone}
use Rattle.abt_machine.specs.Values.{Owned}

-- the element at a place, if it has P
abbrev pub IfAt : {A : Type 0} → (A → Type 0) → List A → Type 0
IfAt {A} P xs = (i : ℕ) (x : A) → slice_get xs i ≡ Some x → P x

-- what all elements have, the one at a place has
pub all-at : {A : Type 0} (P : A → Type 0) (xs : List A) → All P xs → IfAt P xs
all-at P xs h i x is = subst P (get_or_from_slice_get xs i x x is) (h i x (slice_get_within xs i x is))

-- what the elements at all places have, all have
pub at-all : {A : Type 0} (P : A → Type 0) (xs : List A) → IfAt P xs → All P xs
at-all P xs h = λ k d within. h k (get_or xs k d) (slice_get-get_or xs k d within)

-- what holds of each element, and of none, holds of what is at a place
pub at-place : {A : Type 0} (P : Option A → Type 0) (xs : List A) (i : ℕ) → P None → All (λ x. P (Some x)) xs → P (slice_get xs i)
at-place {A = A} P xs i none all = by (slice_get xs i) refl
  where
    by : (o : Option A) → slice_get xs i ≡ o → P o
    by None e = none
    by (Some x) e = all-at (λ y. P (Some y)) xs all i x e

-- what all images have, as elements
pub map-all : {A B : Type 0} (f : A → B) (P : B → Type 0) (xs : List A) → All P (map f xs) → All (λ x. P (f x)) xs
map-all f P [] h = λ k d within. absurd (omega arith)
map-all {A = A} f P (x ∷ xs) h = λ k d within. by k d within (map-all f P xs (λ j e inside. h (suc j) e (omega arith)))
  where
    by : (k : ℕ) (d : A) → k < length (x ∷ xs) → All (λ y. P (f y)) xs → P (f (get_or (x ∷ xs) k d))
    by zero d within rest = h 0 (f x) (omega arith)
    by (suc k) d within rest = rest k d (omega arith)

-- the image of an element at a place
get_or-map : {A B : Type 0} (f : A → B) (xs : List A) (k : ℕ) (a : A) (b : B) → k < length xs → get_or (map f xs) k b ≡ f (get_or xs k a)
get_or-map f [] k a b within = absurd (omega arith)
get_or-map f (x ∷ xs) zero a b within = refl
get_or-map f (x ∷ xs) (suc k) a b within = get_or-map f xs k a b (omega arith)

-- the numbers of pools are apart if the pools are
pub pairs-map : (pools : List PoolNo) → AllPairs (λ (a b : PoolNo). a.0 ≢ b.0) pools → AllPairs (λ a b. a ≢ b) (map (λ (p : PoolNo). p.0) pools)
pairs-map pools h = λ i j d before within same.
    let size : length (map (λ (p : PoolNo). p.0) pools) ≡ length pools = length-map pools (λ (p : PoolNo). p.0) in
    let p : PoolNo = record { 0 = d } in
    let first = get_or-map (λ (p : PoolNo). p.0) pools i p d (omega arith) in
    let second = get_or-map (λ (p : PoolNo). p.0) pools j p d (omega arith) in
    h i j p before (omega arith) (sym first ∙ same ∙ second)

-- and the pools are apart if their numbers are
pub map-pairs : (pools : List PoolNo) → AllPairs (λ a b. a ≢ b) (map (λ (p : PoolNo). p.0) pools) → AllPairs (λ (a b : PoolNo). a.0 ≢ b.0) pools
map-pairs pools h = λ i j d before within same.
    let size : length (map (λ (p : PoolNo). p.0) pools) ≡ length pools = length-map pools (λ (p : PoolNo). p.0) in
    let first = get_or-map (λ (p : PoolNo). p.0) pools i d d.0 (omega arith) in
    let second = get_or-map (λ (p : PoolNo). p.0) pools j d d.0 (omega arith) in
    h i j d.0 before (omega arith) (first ∙ same ∙ sym second)

-- what all elements of two lists have, those of the first have
pub All-left : {A : Type 0} (F : A → Type 0) (xs ys : List A) → All F (xs ++ ys) → All F xs
All-left F [] ys all = All-nil F
All-left F (x ∷ xs) ys all = All-cons F x xs (All-head F x (xs ++ ys) all) (All-left F xs ys (All-tail F x (xs ++ ys) all))

-- and those of the second
pub All-right : {A : Type 0} (F : A → Type 0) (xs ys : List A) → All F (xs ++ ys) → All F ys
All-right F [] ys all = all
All-right F (x ∷ xs) ys all = All-right F xs ys (All-tail F x (xs ++ ys) all)

-- and those after the first element
pub All-rest : (F : Owned → Type 0) (os : List Owned) → All F os → All F (rest os)
All-rest F [] all = all
All-rest F (o ∷ os) all = All-tail F o os all

-- and the first element alone
pub All-first_alone : (F : Owned → Type 0) (os : List Owned) → All F os → All F (first_alone os)
All-first_alone F [] all = all
All-first_alone F (o ∷ os) all = All-cons F o [] (All-head F o os all) (All-nil F)
