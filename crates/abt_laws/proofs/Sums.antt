-- Sums over the numbers below a bound.
use Rattle.std.proofs.Common.{◌≡◌, ◌≢◌, ℕ, zero, suc, ◌<◌, ◌≤◌, ◌+◌, refl, sym, subst, arith, inl, inr, ◌*◌, ◌∙◌, ap}
use Rattle.std.specs.Prelude.{sum_by}
use Rattle.std.proofs.lemmas.Bool.{cases_eq}
use Rattle.std.proofs.lemmas.List.Sums.{sum_by_push}
use Rattle.abt_machine.specs.Lives.{count_up}

abbrev pub sum_up : (ℕ → ℕ) → ℕ → ℕ
sum_up f n = sum_by f (count_up n)

pub sum_up-suc : (f : ℕ → ℕ) (n : ℕ) → sum_up f (suc n) ≡ sum_up f n + f n
sum_up-suc f n = sum_by_push f (count_up n) n

pub sum_up-same : (f g : ℕ → ℕ) (n : ℕ) → ((v : ℕ) → v < n → f v ≡ g v) → sum_up f n ≡ sum_up g n
sum_up-same f g zero h = refl
sum_up-same f g (suc n) h =
    let now : f n ≡ g n = h n (omega arith) in
    let rest : sum_up f n ≡ sum_up g n = sum_up-same f g n (λ v l. h v (omega arith)) in omega (arith, sum_up-suc f n, sum_up-suc g n)

pub sum_up-rises : (f g : ℕ → ℕ) (n : ℕ) → ((v : ℕ) → v < n → f v ≤ g v) → sum_up f n ≤ sum_up g n
sum_up-rises f g zero h = omega arith
sum_up-rises f g (suc n) h =
    let now : f n ≤ g n = h n (omega arith) in
    let rest : sum_up f n ≤ sum_up g n = sum_up-rises f g n (λ v l. h v (omega arith)) in omega (arith, sum_up-suc f n, sum_up-suc g n)

-- if no number has more than before and one has less, the sum is less
pub sum_up-falls : (f g : ℕ → ℕ) (n u : ℕ) → u < n → f u < g u → ((v : ℕ) → v < n → f v ≤ g v) → sum_up f n < sum_up g n
sum_up-falls f g zero u l less h = absurd (omega arith)
sum_up-falls f g (suc n) u l less h =
    elim (cases_eq n u) [
      | inl same ↦
          let now : f n < g n = subst (λ m. f m < g m) (sym same) less in
          let rest : sum_up f n ≤ sum_up g n = sum_up-rises f g n (λ v b. h v (omega arith)) in omega (arith, sum_up-suc f n, sum_up-suc g n)
      | inr other ↦
          let now : f n ≤ g n = h n (omega arith) in
          let rest : sum_up f n < sum_up g n = sum_up-falls f g n u (omega arith) less (λ v b. h v (omega arith)) in omega (arith, sum_up-suc f n, sum_up-suc g n)
    ]

-- if one number alone has less, the sum is less
pub sum_up-falls-at : (f g : ℕ → ℕ) (n u : ℕ) → u < n → f u < g u → ((v : ℕ) → v ≢ u → f v ≡ g v) → sum_up f n < sum_up g n
sum_up-falls-at f g n u l less others =
    sum_up-falls f g n u l less (λ v b. elim (cases_eq v u) [
      | inl same ↦ (let here : f v < g v = subst (λ m. f m < g m) (sym same) less in omega arith)
      | inr other ↦ (let here : f v ≡ g v = others v other in omega arith)
    ])

-- each term has at most m
pub sum_up-most : (f : ℕ → ℕ) (m n : ℕ) → ((v : ℕ) → f v ≤ m) → sum_up f n ≤ n * m
sum_up-most f m zero most = omega arith
sum_up-most f m (suc n) most =
    let now : f n ≤ m = most n in
    let rest : sum_up f n ≤ n * m = sum_up-most f m n most in
    let one : suc n * m ≡ n * m + m = omega arith in omega (arith, sum_up-suc f n)

-- Sums of sums.

pub sum_up-none : (f : ℕ → ℕ) (n : ℕ) → ((v : ℕ) → v < n → f v ≡ 0) → sum_up f n ≡ 0
sum_up-none f zero none = refl
sum_up-none f (suc n) none =
    let now : f n ≡ 0 = none n (omega arith) in
    let rest : sum_up f n ≡ 0 = sum_up-none f n (λ v l. none v (omega arith)) in omega (arith, sum_up-suc f n)

-- one term alone
pub sum_up-single : (f : ℕ → ℕ) (n u : ℕ) → u < n → ((v : ℕ) → v ≢ u → f v ≡ 0) → sum_up f n ≡ f u
sum_up-single f zero u l none = absurd (omega arith)
sum_up-single f (suc n) u l none =
    elim (cases_eq n u) [
      | inl same ↦
          let now : f n ≡ f u = ap f same in
          let rest : sum_up f n ≡ 0 = sum_up-none f n (λ v b. none v (λ e. (let k : v ≡ n = e ∙ sym same in absurd (omega arith)))) in omega (arith, sum_up-suc f n)
      | inr other ↦
          let now : f n ≡ 0 = none n other in
          let rest : sum_up f n ≡ f u = sum_up-single f n u (omega arith) none in omega (arith, sum_up-suc f n)
    ]

-- at most one term, of 1
pub sum_up-one : (f : ℕ → ℕ) (n : ℕ) → ((v : ℕ) → f v ≤ 1) → ((u v : ℕ) → f u ≡ 1 → f v ≡ 1 → u ≡ v) → sum_up f n ≤ 1
sum_up-one f zero most alone = omega arith
sum_up-one f (suc n) most alone =
    let here : f n ≤ 1 = most n in
    elim (cases_eq (f n) 1) [
      | inl is ↦
          let rest : sum_up f n ≡ 0 = sum_up-none f n (λ v l.
          elim (cases_eq (f v) 1) [
            | inl too ↦ (let k : v ≡ n = alone v n too is in absurd (omega arith))
            | inr less ↦ (let m : f v ≤ 1 = most v in omega arith)
          ]) in omega (arith, sum_up-suc f n)
      | inr not ↦ (let rest : sum_up f n ≤ 1 = sum_up-one f n most alone in omega (arith, sum_up-suc f n))
    ]

pub sum_up-plus : (f g : ℕ → ℕ) (n : ℕ) → sum_up (λ v. f v + g v) n ≡ sum_up f n + sum_up g n
sum_up-plus f g zero = refl
sum_up-plus f g (suc n) =
    let rest : sum_up (λ v. f v + g v) n ≡ sum_up f n + sum_up g n = sum_up-plus f g n in
    omega (arith, sum_up-suc (λ v. f v + g v) n, sum_up-suc f n, sum_up-suc g n)

pub sum_up-times : (c : ℕ) (f : ℕ → ℕ) (n : ℕ) → sum_up (λ v. c * f v) n ≡ c * sum_up f n
sum_up-times c f zero = omega arith
sum_up-times c f (suc n) =
    let rest : sum_up (λ v. c * f v) n ≡ c * sum_up f n = sum_up-times c f n in
    let parts : c * (sum_up f n + f n) ≡ c * sum_up f n + c * f n = omega arith in
    let whole : c * sum_up f (suc n) ≡ c * (sum_up f n + f n) = ap (λ m. c * m) (sum_up-suc f n) in
    omega (arith, sum_up-suc (λ v. c * f v) n)

-- sums change places
pub sum_up-swap : (f : ℕ → ℕ → ℕ) (n m : ℕ) → sum_up (λ u. sum_up (λ s. f s u) n) m ≡ sum_up (λ s. sum_up (f s) m) n
sum_up-swap f zero m = sum_up-none (λ u. sum_up (λ s. f s u) 0) m (λ v l. refl)
sum_up-swap f (suc n) m =
    let one : sum_up (λ u. sum_up (λ s. f s u) (suc n)) m ≡ sum_up (λ u. sum_up (λ s. f s u) n + f n u) m =
    sum_up-same (λ u. sum_up (λ s. f s u) (suc n)) (λ u. sum_up (λ s. f s u) n + f n u) m (λ u l. sum_up-suc (λ s. f s u) n) in
    let two : sum_up (λ u. sum_up (λ s. f s u) n + f n u) m ≡ sum_up (λ u. sum_up (λ s. f s u) n) m + sum_up (f n) m = sum_up-plus (λ u. sum_up (λ s. f s u) n) (f n) m in
    let rest : sum_up (λ u. sum_up (λ s. f s u) n) m ≡ sum_up (λ s. sum_up (f s) m) n = sum_up-swap f n m in
    omega (arith, sum_up-suc (λ s. sum_up (f s) m) n)
