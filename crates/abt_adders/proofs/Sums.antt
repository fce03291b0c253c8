-- Sums in which one term changes, and the sum of the numbers up to one.
use Rattle.std.proofs.Common.{◌≡◌, ◌≢◌, ℕ, zero, suc, ◌<◌, ◌≤◌, ◌+◌, ◌*◌, sym, ◌∙◌, ap, arith, inl, inr}
use Rattle.std.proofs.lemmas.Bool.{cases_eq}
use Rattle.abt_laws.proofs.Sums.{sum_up, sum_up-same, sum_up-suc}
use Rattle.abt_adders.specs.Laws.{sum_to}

-- if one term alone changes, the sum changes as it does
pub sum-alone : (f g : ℕ → ℕ) (n u : ℕ) → u < n → ((v : ℕ) → v ≢ u → g v ≡ f v) → sum_up g n + f u ≡ sum_up f n + g u
sum-alone f g zero u l others = absurd (omega arith)
sum-alone f g (suc n) u l others =
    elim (cases_eq n u) [
      | inl same ↦
          let rest : sum_up g n ≡ sum_up f n = sum_up-same g f n (λ v b. others v (λ e. (let k : v ≡ n = e ∙ sym same in absurd (omega arith)))) in
          let old : f n ≡ f u = ap f same in
          let new : g n ≡ g u = ap g same in omega (arith, sum_up-suc f n, sum_up-suc g n)
      | inr other ↦
          let now : g n ≡ f n = others n other in
          let rest : sum_up g n + f u ≡ sum_up f n + g u = sum-alone f g n u (omega arith) others in omega (arith, sum_up-suc f n, sum_up-suc g n)
    ]

twice-sum : (n : ℕ) → 2 * sum_up (λ v. v) (suc n) ≡ n * suc n
twice-sum zero = omega (arith, sum_up-suc (λ v. v) 0)
twice-sum (suc n) =
    let rest : 2 * sum_up (λ v. v) (suc n) ≡ n * suc n = twice-sum n in
    let parts : suc n * suc (suc n) ≡ n * suc n + 2 * suc n = omega arith in omega (arith, sum_up-suc (λ v. v) (suc n))

pub sum-numbers : (n : ℕ) → sum_up (λ v. v) (suc n) ≡ sum_to n
sum-numbers n = let twice : 2 * sum_up (λ v. v) (suc n) ≡ n * suc n = twice-sum n in omega arith

-- if every term but that of 0 is the same
pub sum-first : (f : ℕ → ℕ) (b n : ℕ) → ((v : ℕ) → 0 < v → v ≤ n → f v ≡ b) → sum_up f (suc n) ≡ f 0 + n * b
sum-first f b zero each = omega (arith, sum_up-suc f 0)
sum-first f b (suc n) each =
    let rest : sum_up f (suc n) ≡ f 0 + n * b = sum-first f b n (λ v some most. each v some (omega arith)) in
    let now : f (suc n) ≡ b = each (suc n) (omega arith) (omega arith) in
    let one : suc n * b ≡ n * b + b = omega arith in omega (arith, sum_up-suc f (suc n))
