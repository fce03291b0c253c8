-- Lists of numbers that have each number as often are permutations of each other.
use Rattle.std.proofs.Common.{◌≡◌, ℕ, zero, suc, ◌+◌, ◌<◌, ◌≤◌, ◌==◌, List, [], ◌∷◌, map, refl, sym, ap, subst, arith, inl, inr, All}
use Rattle.std.specs.List.{range_with_len}
use Rattle.std.specs.List.Sorted.{IsPermutation}
use Rattle.std.proofs.lemmas.Bool.{cases_eq}
use Rattle.std.proofs.lemmas.List.Elements.{All-head, All-tail}
use Rattle.std.proofs.lemmas.List.Sorted.{IsPermutation-cons, IsPermutation-middle, IsPermutation-refl, IsPermutation-sym, IsPermutation-trans}
use Rattle.abt_machine.specs.Monitors.{number_of}
use Rattle.abt_machine.specs.Values.{Owned}
use Rattle.abt_calls.proofs.LineTallies.{one, one-other, one-same}
use Rattle.abt_calls.proofs.Tallies.{tally, tally-cons, tally-nil, tally-one}

-- how often u stands in the list
abbrev pub count : ℕ → List ℕ → ℕ
count u [] = 0
count u (v ∷ vs) = one (v == u) + count u vs

pub count-numbers : (u : ℕ) (os : List Owned) → count u (map number_of os) ≡ tally u os
count-numbers u [] = sym (tally-nil u)
count-numbers u (o ∷ os) = omega (arith, count-numbers u os, tally-cons u o os, tally-one u o)

-- Ranges.

pub range-none : (u a n : ℕ) → u < a → count u (range_with_len a n) ≡ 0
range-none u a zero l = refl
range-none u a (suc n) l = omega (arith, one-other a u (λ e. omega arith), range-none u (a + 1) n (omega arith))

pub range-past : (u a n : ℕ) → a + n ≤ u → count u (range_with_len a n) ≡ 0
range-past u a zero l = refl
range-past u a (suc n) l = omega (arith, one-other a u (λ e. omega arith), range-past u (a + 1) n (omega arith))

pub range-one : (u a n : ℕ) → a ≤ u → u < a + n → count u (range_with_len a n) ≡ 1
range-one u a zero l h = absurd (omega arith)
range-one u a (suc n) l h =
    elim (cases_eq a u) [
      | inl same ↦ omega (arith, one-same a u same, range-none u (a + 1) n (omega arith))
      | inr other ↦ omega (arith, one-other a u other, range-one u (a + 1) n (omega arith) (omega arith))
    ]

-- Units whose numbers are below n.

pub tally-past : (u n : ℕ) (os : List Owned) → All (λ o. o.number < n) os → n ≤ u → tally u os ≡ 0
tally-past u n [] all l = tally-nil u
tally-past u n (o ∷ os) all l =
    let h : o.number < n = All-head (λ q. q.number < n) o os all in
    omega (arith, tally-cons u o os, tally-one u o, one-other o.number u (λ e. omega arith), tally-past u n os (All-tail (λ q. q.number < n) o os all) l)

-- Permutations.

-- ys has x, and these besides
record Has (x : ℕ) (ys : List ℕ) : Type 0 where
  others : List ℕ
  same : IsPermutation ys (x ∷ others)
  counts : (u : ℕ) → count u ys ≡ one (x == u) + count u others

has : (x : ℕ) (ys : List ℕ) → 0 < count x ys → Has x ys
has x [] l = absurd (omega arith)
has x (y ∷ ys) l =
    elim (cases_eq y x) [
      | inl is ↦ record { others = ys; same = subst (λ z. IsPermutation (y ∷ ys) (z ∷ ys)) is (IsPermutation-refl (y ∷ ys)); counts = λ u. ap (λ z. one (z == u) + count u ys) is }
      | inr other ↦
          (let e : one (y == x) ≡ 0 = one-other y x other in
          let r : Has x ys = has x ys (omega (arith, l, e)) in
          record {
            others = y ∷ r.others;
            same = IsPermutation-trans (y ∷ ys) (y ∷ x ∷ r.others) (x ∷ y ∷ r.others) (IsPermutation-cons y ys (x ∷ r.others) r.same) (IsPermutation-middle (y ∷ []) x r.others);
            counts = λ u. omega (arith, r.counts u);
          })
    ]

pub permutes : (xs ys : List ℕ) → ((u : ℕ) → count u xs ≡ count u ys) → IsPermutation xs ys
permutes [] [] e = IsPermutation-refl []
permutes [] (y ∷ ys) e = absurd (omega (arith, e y, one-same y y refl))
permutes (x ∷ xs) ys e =
    let r : Has x ys = has x ys (omega (arith, e x, one-same x x refl)) in
    let h : (u : ℕ) → count u xs ≡ count u r.others = λ u. omega (arith, e u, r.counts u) in
    IsPermutation-trans (x ∷ xs) (x ∷ r.others) ys (IsPermutation-cons x xs r.others (permutes xs r.others h)) (IsPermutation-sym ys (x ∷ r.others) r.same)
