-- What is counted over the one list is counted over the logs.
use Rattle.std.proofs.Common.{◌≡◌, ◌≢◌, ℕ, zero, suc, ◌+◌, ◌<◌, ◌≤◌, ◌==◌, ◌&&◌, cond, true, false, Bool, List, [], ◌∷◌, length, refl, sym, ◌∙◌, ap, subst, arith, inl, inr}
use Rattle.std.specs.Prelude.{count_by}
use Rattle.std.specs.List.{sum_by}
use Rattle.std.proofs.lemmas.Bool.{cond-true, cond-false, cases_lt, cases_eq, eq-eqb, ne_eqb}
use Rattle.std.proofs.lemmas.List.Sums.{sum_by-cons}
use Rattle.abt_interleave.specs.Merges.{of_stream, IsMergeOf, sum_below}
use Rattle.abt_interleave.specs.MergeLaws.{MergesCountEach, MergesSum, MergesLengthen}
use Rattle.abt_interleave.proofs.Members.{Among}
use Rattle.abt_interleave.proofs.OneList.{in-log}

-- Sums below a number.

pub sum-same : (n : ℕ) (f g : ℕ → ℕ) → ((s : ℕ) → s < n → f s ≡ g s) → sum_below n f ≡ sum_below n g
sum-same zero f g h = refl
sum-same (suc n) f g h =
    let a : sum_below n f ≡ sum_below n g = sum-same n f g (λ s l. h s (omega arith)) in
    let b : f n ≡ g n = h n (omega arith) in
    omega arith

sum-zero : (n : ℕ) → sum_below n (λ s. 0) ≡ 0
sum-zero zero = refl
sum-zero (suc n) = let a : sum_below n (λ s. 0) ≡ 0 = sum-zero n in omega arith

-- one term more at one number
sum-bump : (n : ℕ) (f g : ℕ → ℕ) (k c : ℕ) → k < n → g k ≡ c + f k → ((s : ℕ) → k ≢ s → g s ≡ f s) → sum_below n g ≡ c + sum_below n f
sum-bump zero f g k c l at else = absurd (omega arith)
sum-bump (suc n) f g k c l at else = elim (cases_eq k n) [
  | inl e ↦ (let a : sum_below n g ≡ sum_below n f = sum-same n g f (λ s m. else s (λ q. absurd (apart s m q e))) in let b : g n ≡ c + f n = subst (λ t. g t ≡ c + f t) e at in omega arith)
  | inr ne ↦ (let a : sum_below n g ≡ c + sum_below n f = sum-bump n f g k c (omega (arith, ne)) at else in let b : g n ≡ f n = else n ne in omega arith)
] where
  apart : (s : ℕ) → s < n → k ≡ s → k ≡ n → ⊥
  apart s m q e = omega arith

pub sum-below-le : (n b : ℕ) (f : ℕ → ℕ) → ((s : ℕ) → s < n → f s ≤ b) → (m : ℕ) → n ≤ m → sum_below n f ≤ sum_below m (λ s. b)
sum-below-le zero b f h m l = omega arith
sum-below-le (suc n) b f h zero l = absurd (omega arith)
sum-below-le (suc n) b f h (suc m) l =
    let a : sum_below n f ≤ sum_below m (λ s. b) = sum-below-le n b f (λ s k. h s (omega arith)) m (omega arith) in
    let c : f n ≤ b = h n (omega arith) in
    omega arith

module _ {E : Type 0} (stamp stream : E → ℕ) where
  -- Over the items of each stream.

  sum-cond : (f : E → ℕ) (b : Bool) (e : E) (es : List E) → b ≡ true → sum_by f (cond b (e ∷ es) es) ≡ f e + sum_by f es
  sum-cond f b e es q = ap (sum_by f) (cond-true b (e ∷ es) es q) ∙ sum_by-cons f e es

  sum-parts : (n : ℕ) (f : E → ℕ) (J : List E) → ((e : E) → Among e J → stream e < n) → sum_by f J ≡ sum_below n (λ s. sum_by f (of_stream stream s J))
  sum-parts n f [] within = sym (sum-zero n)
  sum-parts n f (e ∷ es) within =
      let a : sum_by f es ≡ sum_below n (λ s. sum_by f (of_stream stream s es)) = sum-parts n f es (λ x m. within x (inr m)) in
      let b : sum_below n (λ s. sum_by f (of_stream stream s (e ∷ es))) ≡ f e + sum_below n (λ s. sum_by f (of_stream stream s es)) = sum-bump n (λ s. sum_by f (of_stream stream s es)) (λ s. sum_by f (of_stream stream s (e ∷ es))) (stream e) (f e) (within e (inl refl))
      (sum-cond f (stream e == stream e) e (of_stream stream (stream e) es) (eq-eqb (stream e) (stream e) refl))
      (λ s ne. ap (sum_by f) (cond-false (stream e == s) (e ∷ of_stream stream s es) (of_stream stream s es) (ne_eqb (stream e) s ne))) in
      let c : sum_by f (e ∷ es) ≡ f e + sum_by f es = sum_by-cons f e es in
      omega arith

  pub length-ones : (xs : List E) → length xs ≡ sum_by (λ x. 1) xs
  length-ones [] = refl
  length-ones (x ∷ xs) = let a : length xs ≡ sum_by (λ y. 1) xs = length-ones xs in let b : sum_by (λ (y : E). 1) (x ∷ xs) ≡ 1 + sum_by (λ y. 1) xs = sum_by-cons (λ y. 1) x xs in omega arith

  -- the items of stream s that pass a test
  both-is : (t u : Bool) (e : E) (es : List E) (test : E → Bool) → test e ≡ t → (n : ℕ) → n ≡ count_by test es → cond (t && u) 1 0 + n ≡ count_by test (cond u (e ∷ es) es)
  both-is true true e es test q n h =
      let a : count_by test (cond true (e ∷ es) es) ≡ cond (test e) 1 0 + count_by test es = sum_by-cons (λ x. cond (test x) 1 0) e es in
      let b : cond {A = ℕ} (test e) 1 0 ≡ 1 = ap (λ (v : Bool). cond {A = ℕ} v 1 0) q in
      let d : cond {A = ℕ} (true && true) 1 0 ≡ 1 = refl in
      omega arith
  both-is false true e es test q n h =
      let a : count_by test (cond true (e ∷ es) es) ≡ cond (test e) 1 0 + count_by test es = sum_by-cons (λ x. cond (test x) 1 0) e es in
      let b : cond {A = ℕ} (test e) 1 0 ≡ 0 = ap (λ (v : Bool). cond {A = ℕ} v 1 0) q in
      let d : cond {A = ℕ} (false && true) 1 0 ≡ 0 = refl in
      omega arith
  both-is true false e es test q n h =
      let a : count_by test (cond false (e ∷ es) es) ≡ count_by test es = refl in
      let d : cond {A = ℕ} (true && false) 1 0 ≡ 0 = refl in
      omega arith
  both-is false false e es test q n h =
      let a : count_by test (cond false (e ∷ es) es) ≡ count_by test es = refl in
      let d : cond {A = ℕ} (false && false) 1 0 ≡ 0 = refl in
      omega arith

  count-each : (test : E → Bool) (s : ℕ) (J : List E) → count_by (λ e. test e && (stream e == s)) J ≡ count_by test (of_stream stream s J)
  count-each test s [] = refl
  count-each test s (e ∷ es) = sum_by-cons (λ x. cond (test x && (stream x == s)) 1 0) e es ∙ both-is (test e) (stream e == s) e (of_stream stream s es) test refl (count_by (λ x. test x && (stream x == s)) es) (count-each test s es)

  -- Over the logs.

  module _ (logs : ℕ → List E) (J : List E) (merged : IsMergeOf stamp stream logs J) where
    count-log : (test : E → Bool) (s : ℕ) → count_by (λ e. test e && (stream e == s)) J ≡ count_by test (logs s)
    count-log test s = count-each test s J ∙ ap (λ (ys : List E). count_by test ys) (merged.each s)

    merged-within : (n : ℕ) → ((s : ℕ) → n ≤ s → logs s ≡ []) → (e : E) → Among e J → stream e < n
    merged-within n none e m = elim (cases_lt (stream e) n) [ inl l ↦ l | inr g ↦ absurd (subst (Among e) (none (stream e) g) (in-log stamp stream logs J merged e m)) ]

    sum-logs : (n : ℕ) → ((s : ℕ) → n ≤ s → logs s ≡ []) → (f : E → ℕ) → sum_by f J ≡ sum_below n (λ s. sum_by f (logs s))
    sum-logs n none f = sum-parts n f J (merged-within n none) ∙ sum-same n (λ s. sum_by f (of_stream stream s J)) (λ s. sum_by f (logs s)) (λ s l. ap (sum_by f) (merged.each s))

    pub length-logs : (n : ℕ) → ((s : ℕ) → n ≤ s → logs s ≡ []) → length J ≡ sum_below n (λ s. length (logs s))
    length-logs n none = length-ones J ∙ (sum-logs n none (λ x. 1) ∙ sum-same n (λ s. sum_by (λ x. 1) (logs s)) (λ s. length (logs s)) (λ s l. sym (length-ones (logs s))))

module _ (E : Type 0) where
  pub merges-count-each : MergesCountEach E
  merges-count-each stamp stream logs J merged test s = count-log stamp stream logs J merged test s

  pub merges-sum : MergesSum E
  merges-sum stamp stream n logs J merged none f = sum-logs stamp stream logs J merged n none f

  pub merges-lengthen : MergesLengthen E
  merges-lengthen stamp stream n logs J merged none = length-logs stamp stream logs J merged n none
