-- The ways of few queens are fewer than 2^64.
use Rattle.std.proofs.Common.{◌≡◌, ◌≤◌, ◌+◌, ◌*◌, ℕ, zero, suc, List, [], ◌∷◌, length, arith, subst, sym, inl, inr}
use Rattle.std.specs.Prelude.{◌%◌, ◌^◌, if◌then◌else◌, sum_by, Bool, true, false}
use Rattle.std.specs.List.{range_with_len}
use Rattle.std.proofs.Math.Nat.{mod-eq_of_lt, mul-le-mul_right}
use Rattle.std.proofs.lemmas.Bool.{cases_lt}
use Rattle.std.proofs.lemmas.List.FromFn.{length-range_with_len}
use Rattle.std.proofs.lemmas.List.Sums.{sum_by-cons}
use Rattle.abt_kernels.specs.Queens.{attacks, completions, queens}

-- 16 to the power of k
abbrev powers : ℕ → ℕ
powers zero = 1
powers (suc k) = 16 * powers k

-- a sum of so many numbers, each at most m
sum-most : (f : ℕ → ℕ) (m : ℕ) (xs : List ℕ) → ((x : ℕ) → f x ≤ m) → sum_by f xs ≤ length xs * m
sum-most f m [] most = let e : sum_by f [] ≤ 0 = omega arith in omega (arith, e)
sum-most f m (x ∷ xs) most =
    let rest : sum_by f xs ≤ length xs * m = sum-most f m xs most in
    let here : f x ≤ m = most x in
    let all : sum_by f (x ∷ xs) ≡ f x + sum_by f xs = sum_by-cons f x xs in
    let e : length (x ∷ xs) * m ≡ m + length xs * m = grind arith in
    omega arith

chosen : (b : Bool) (n m : ℕ) → n ≤ m → (if b then 0 else n) ≤ m
chosen true n m l = omega arith
chosen false n m l = l

completions-most : (n k : ℕ) (placed : List ℕ) → n ≤ 16 → completions n k placed ≤ powers k
completions-most n zero placed few = omega arith
completions-most n (suc k) placed few =
    let each : sum_by (λ c. if attacks c 1 placed then 0 else completions n k (c ∷ placed)) (range_with_len 0 n) ≤ length (range_with_len 0 n) * powers k =
    sum-most (λ c. if attacks c 1 placed then 0 else completions n k (c ∷ placed)) (powers k) (range_with_len 0 n) (λ c. chosen (attacks c 1 placed) (completions n k (c ∷ placed)) (powers k) (completions-most n k (c ∷ placed) few)) in
    let many : length (range_with_len 0 n) ≤ 16 = let e = length-range_with_len 0 n in omega arith in
    let more : length (range_with_len 0 n) * powers k ≤ 16 * powers k = mul-le-mul_right (powers k) many in
    omega arith

powers-rise : (n m : ℕ) → n ≤ m → powers n ≤ powers m
powers-rise n zero l = let e : n ≡ 0 = omega arith in subst (λ k. powers k ≤ powers 0) (sym e) (let same : powers 0 ≤ powers 0 = omega arith in same)
powers-rise n (suc m) l = elim (cases_lt n (suc m)) [
  | inl less ↦ let before : powers n ≤ powers m = powers-rise n m (omega arith) in omega arith
  | inr most ↦ let e : n ≡ suc m = omega arith in subst (λ k. powers k ≤ powers (suc m)) (sym e) (let same : powers (suc m) ≤ powers (suc m) = omega arith in same)
]

pub queens-fit : (n : ℕ) → n ≤ 12 → queens n % 2 ^ 64 ≡ queens n
queens-fit n few =
    let most : queens n ≤ powers n = completions-most n n [] (omega arith) in
    let up : powers n ≤ 281474976710656 = powers-rise n 12 few in
    mod-eq_of_lt (omega arith)
