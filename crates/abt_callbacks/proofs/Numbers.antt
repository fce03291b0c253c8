-- The numbers of the workers.
use Rattle.std.proofs.Common.{◌≡◌, ℕ, zero, suc, ◌+◌, ◌*◌, ◌%◌, ◌<◌, Bool, true, false, cond, eq-eqb, ne_eqb, [], ◌∷◌, ◌++◌, length, map, refl, sym, ap, ◌∙◌, arith, mul-suc, suc-mul}
use Rattle.std.specs.Prelude.{◌==◌}
use Rattle.std.specs.List.{All, filter, range_with_len, sum_by}
use Rattle.std.proofs.lemmas.List.{length-map, map-append, append-nil}
use Rattle.std.proofs.lemmas.List.Elements.{filter-append}
use Rattle.std.proofs.lemmas.List.FromFn.{length-range_with_len}
use Rattle.std.proofs.lemmas.List.Sums.{sum_by_push}
use Rattle.abt_callbacks.specs.declared.acts.FutureAct.{FutureAct}
use Rattle.abt_callbacks.specs.declared.acts.FutureAct.TheVariants.{Set, Read, Reset}
use Rattle.abt_callbacks.specs.Runs.{numbers_for, plain_sum, sets_of}
use Rattle.booth_caller.proofs.Calling.{same-sums, sum_below, sum_by-of_map, sum_by-one, sum-of-classes}

-- the number that an act sets
abbrev pub value_of : FutureAct → ℕ
value_of (Set v) = v
value_of Read = 0
value_of Reset = 0

-- one number more
range-more : (a n : ℕ) → range_with_len a (suc n) ≡ range_with_len a n ++ (a + n) ∷ []
range-more a zero = ap (λ x. x ∷ []) (omega arith)
range-more a (suc n) = let last : a + 1 + n ≡ a + suc n = omega arith in
    ap (λ l. a ∷ l) (range-more (a + 1) n ∙ ap (λ x. range_with_len (a + 1) n ++ x ∷ []) last)

module _ (workers n worker : ℕ) where
  mapped : (b : Bool) → map Set (cond b ((n + 1) ∷ []) []) ≡ cond b (Set (n + 1) ∷ []) []
  mapped true = refl
  mapped false = refl

  -- the next number is the worker's, or it is not
  sets-more : (b : Bool) → ((n + 1) % workers == worker) ≡ b → sets_of workers (n + 1) worker ≡ sets_of workers n worker ++ cond b (Set (n + 1) ∷ []) []
  sets-more b is =
      let p : ℕ → Bool = λ v. v % workers == worker in
      let one : filter p ((n + 1) ∷ []) ≡ cond b ((n + 1) ∷ []) [] = ap (λ t. cond t ((n + 1) ∷ []) []) is in
      let next : 1 + n ≡ n + 1 = omega arith in
      let plus : n + 1 ≡ suc n = omega arith in
      let all : range_with_len 1 (n + 1) ≡ range_with_len 1 n ++ (n + 1) ∷ [] = ap (range_with_len 1) plus ∙ (range-more 1 n ∙ ap (λ x. range_with_len 1 n ++ x ∷ []) next) in
      ap (map Set) (ap (filter p) all ∙ (filter-append p (range_with_len 1 n) ((n + 1) ∷ []) ∙ ap (λ l. filter p (range_with_len 1 n) ++ l) one))
      ∙ (map-append Set (numbers_for workers n worker) (cond b ((n + 1) ∷ []) []) ∙ ap (λ l. sets_of workers n worker ++ l) (mapped b))

  -- a number of the worker's
  pub sets-hit : (n + 1) % workers ≡ worker → sets_of workers n worker ++ Set (n + 1) ∷ [] ≡ sets_of workers (n + 1) worker
  sets-hit is = sym (sets-more true (eq-eqb ((n + 1) % workers) worker is))

  -- a number of another's
  pub sets-miss : ¬ ((n + 1) % workers ≡ worker) → sets_of workers n worker ≡ sets_of workers (n + 1) worker
  sets-miss other = sym (sets-more false (ne_eqb ((n + 1) % workers) worker other) ∙ append-nil (sets_of workers n worker))

-- the sum of the numbers, twice
gauss : (n : ℕ) → 2 * sum_by (λ x. x) (range_with_len 1 n) ≡ n * (n + 1)
gauss zero = refl
gauss (suc n) =
    let rest = gauss n in
    let push = ap (sum_by (λ x. x)) (range-more 1 n) ∙ sum_by_push (λ x. x) (range_with_len 1 n) (1 + n) in
    let a = suc-mul n (suc n + 1) in
    let b = mul-suc n (n + 1) in
    let c : n * (suc n + 1) ≡ n * suc (n + 1) = ap (λ m. n * m) (omega arith) in omega arith

module _ (workers n : ℕ) (some : 0 < workers) where
  -- each number is one worker's
  each-in : All (λ v. v % workers < workers) (range_with_len 1 n)
  each-in k d lt = omega arith

  -- what f makes of the numbers of all workers
  pub shares : (f : ℕ → ℕ) → sum_below (λ k. sum_by f (numbers_for workers n k)) workers ≡ sum_by f (range_with_len 1 n)
  shares f = sym (sum-of-classes (λ v. v % workers) f workers (range_with_len 1 n) each-in)

  -- together the workers have n numbers
  pub sets-count : sum_below (λ k. length (sets_of workers n k)) workers ≡ n
  sets-count =
      same-sums (λ k. length (sets_of workers n k)) (λ k. sum_by (λ x. 1) (numbers_for workers n k)) workers (λ k lt. length-map (numbers_for workers n k) Set ∙ sym (sum_by-one (numbers_for workers n k)))
      ∙ (shares (λ x. 1) ∙ (sum_by-one (range_with_len 1 n) ∙ length-range_with_len 1 n))

  -- and these add up to the plain sum
  pub values-sum : sum_below (λ k. sum_by value_of (sets_of workers n k)) workers ≡ plain_sum n
  values-sum =
      let all = same-sums (λ k. sum_by value_of (sets_of workers n k)) (λ k. sum_by (λ x. x) (numbers_for workers n k)) workers (λ k lt. sum_by-of_map value_of Set (numbers_for workers n k)) ∙ shares (λ x. x) in
      let twice = gauss n in omega arith
