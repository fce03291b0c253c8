-- Lists of which graphs of a shape are made.
use Rattle.std.proofs.Common.{◌≡◌, ℕ, zero, suc, ◌+◌, ◌*◌, ◌<◌, ◌≤◌, List, [], ◌∷◌, ◌++◌, Option, Some, length, map, replicate, take, drop, slice_get, refl, sym, ◌∙◌, ap, arith, zero-add}
use Rattle.std.specs.Prelude.{slice_index, sum_by}
use Rattle.std.specs.List.{range_with_len}
use Rattle.std.proofs.lemmas.List.FromFn.{get_or-map-range_with_len, length-map-range_with_len}
use Rattle.std.proofs.lemmas.List.Sums.{sum_by-cons}
use Rattle.std.proofs.lemmas.Option.{slice_get-get_or, slice_get_within}
use Rattle.abt_machine.specs.Numbers.{unit_no}
use Rattle.abt_generate.proofs.Lists.{none-some, some-same}
use Rattle.abt_graph.specs.Graphs.{values_at}

-- a copy is the thing copied
pub copy-at : {A : Type 0} (n : ℕ) (x : A) (u : ℕ) (y : A) → slice_get (replicate n x) u ≡ Some y → x ≡ y
copy-at zero x u y is = absurd (none-some is)
copy-at (suc n) x zero y is = some-same is
copy-at (suc n) x (suc u) y is = copy-at n x u y is

pub copy-there : {A : Type 0} (n : ℕ) (x : A) (u : ℕ) → u < n → slice_get (replicate n x) u ≡ Some x
copy-there zero x u below = absurd (omega arith)
copy-there (suc n) x zero below = refl
copy-there (suc n) x (suc u) below = copy-there n x u (omega arith)

-- what is made of a number of a range
pub made-there : {A : Type 0} (f : ℕ → A) (n u : ℕ) → u < n → slice_get (map f (range_with_len 0 n)) u ≡ Some (f u)
made-there {A} f n u below =
    let long : length (map f (range_with_len 0 n)) ≡ n = length-map-range_with_len f 0 n in
    slice_get-get_or (map f (range_with_len 0 n)) u (f u) (omega arith) ∙ ap (λ x. let o : Option A = Some x in o) (get_or-map-range_with_len f 0 n u u (f u) below (zero-add u))

pub made-at : {A : Type 0} (f : ℕ → A) (n u : ℕ) (y : A) → slice_get (map f (range_with_len 0 n)) u ≡ Some y → (u < n) × (f u ≡ y)
made-at f n u y is =
    let long : length (map f (range_with_len 0 n)) ≡ n = length-map-range_with_len f 0 n in
    let below : u < length (map f (range_with_len 0 n)) = slice_get_within (map f (range_with_len 0 n)) u y is in
    let within : u < n = omega arith in
    (within, some-same (sym (made-there f n u within) ∙ is))

-- behind a list
pub get-after : {A : Type 0} (xs ys : List A) (u j : ℕ) → u ≡ length xs + j → slice_get (xs ++ ys) u ≡ slice_get ys j
get-after [] ys u j at = ap (slice_get ys) (at ∙ zero-add j)
get-after (x ∷ xs) ys zero j at = absurd (omega arith)
get-after (x ∷ xs) ys (suc u) j at = get-after xs ys u j (omega arith)

-- at most so much each, at most so much in all
pub sum_by-most : {A : Type 0} (f : A → ℕ) (most : ℕ) (xs : List A) → ((i : ℕ) (x : A) → slice_get xs i ≡ Some x → f x ≤ most) → sum_by f xs ≤ length xs * most
sum_by-most f most [] h = omega arith
sum_by-most f most (x ∷ xs) h =
    let rest : sum_by f xs ≤ length xs * most = sum_by-most f most xs (λ i. h (suc i)) in
    let here : f x ≤ most = h 0 x refl in
    let all : sum_by f (x ∷ xs) ≡ f x + sum_by f xs = sum_by-cons f x xs in
    let more : suc (length xs) * most ≡ length xs * most + most = omega arith in
    omega arith

-- numbers that follow one another, as places

drop-next : (values : List ℕ) (a : ℕ) → a < length values → drop a values ≡ slice_index values a ∷ drop (suc a) values
drop-next [] a below = absurd (omega arith)
drop-next (v ∷ values) zero below = refl
drop-next (v ∷ values) (suc a) below = drop-next values a (omega arith)

pub values-between : (values : List ℕ) (a c : ℕ) → a + c ≤ length values → values_at values (map unit_no (range_with_len a c)) ≡ take c (drop a values)
values-between values a zero within = refl
values-between values a (suc c) within =
    let next : a + 1 ≡ suc a = omega arith in
    ap (λ vs. slice_index values a ∷ vs) (values-between values (a + 1) c (omega arith) ∙ ap (λ k. take c (drop k values)) next) ∙ sym (ap (take (suc c)) (drop-next values a (omega arith)))
