-- One more operation that is done.
use Rattle.std.proofs.Common.{◌≡◌, ◌≢◌, ℕ, suc, ◌+◌, ◌<◌, List, length, Some, get_or-set_other, get_or-set_same, refl, sym, subst, arith, ◌⊎◌, inl, inr}
use Rattle.std.proofs.lemmas.Bool.{cases_eq}
use Rattle.abt_machine.specs.declared.workload.Parts.{Parts}
use Rattle.abt_machine.specs.Numbers.{unit_no}
use Rattle.abt_orderly.specs.Needs.{creates_at, need_at}
use Rattle.abt_orderly.specs.Passing.{HasMet, HasOrder, IsBorn, IsDone, Ordered, done_at, one_more}

module _ (W : Parts) (done : List ℕ) (u : ℕ) (below : u < length done) where
  abbrev next : ℕ
  next = done_at done u

  abbrev more : List ℕ
  more = one_more done u

  pub done-here : done_at more u ≡ next + 1
  done-here = get_or-set_same done u (next + 1) 0 below

  pub done-other : (v : ℕ) → v ≢ u → done_at more v ≡ done_at done v
  done-other v other = get_or-set_other done u v (next + 1) 0 other

  pub still-done : (v j : ℕ) → IsDone done v j → IsDone more v j
  still-done v j l =
      elim (cases_eq v u) [
        | inl same ↦ (let e = done-here in
            let m : j < done_at done u = subst (λ n. j < done_at done n) same l in
            let r : j < done_at more u = omega arith in subst (λ n. j < done_at more n) (sym same) r)
        | inr other ↦ subst (λ n. j < n) (sym (done-other v other)) l
      ]

  pub now-done : IsDone more u next
  now-done = let e = done-here in omega arith

  pub was-done : (v j : ℕ) → IsDone more v j → IsDone done v j ⊎ ((v ≡ u) × (j ≡ next))
  was-done v j l =
      elim (cases_eq v u) [
        | inl same ↦ (let e = done-here in
            let m : j < done_at more u = subst (λ n. j < done_at more n) same l in
            elim (cases_eq j next) [
              | inl last ↦ inr (same, last)
              | inr before ↦ inl (subst (λ n. j < done_at done n) (sym same) (let r : j < next = omega arith in r))
            ])
        | inr other ↦ inl (subst (λ n. j < n) (done-other v other) l)
      ]

  abbrev pub still-met : (i : ℕ) → HasMet W done i → HasMet W more i
  still-met i h = (h.0, h.1, h.2, h.3, still-done h.0 h.1 h.4)

  module _ (rank : ℕ → ℕ → ℕ) (bound : ℕ) (ordered : Ordered W done rank bound) (born : IsBorn W done u) (met : (i : ℕ) → need_at W u next ≡ Some i → HasMet W done i) where
    -- the operation has the bound for its rank
    abbrev pick : (v j : ℕ) → (v ≡ u) ⊎ (v ≢ u) → (j ≡ next) ⊎ (j ≢ next) → ℕ
    pick v j (inl same) (inl last) = bound
    pick v j (inl same) (inr before) = rank v j
    pick v j (inr other) (inl last) = rank v j
    pick v j (inr other) (inr before) = rank v j

    pick-last : (v j : ℕ) (a : (v ≡ u) ⊎ (v ≢ u)) (b : (j ≡ next) ⊎ (j ≢ next)) → v ≡ u → j ≡ next → pick v j a b ≡ bound
    pick-last v j (inl same) (inl last) e f = refl
    pick-last v j (inl same) (inr before) e f = absurd (before f)
    pick-last v j (inr other) (inl last) e f = absurd (other e)
    pick-last v j (inr other) (inr before) e f = absurd (other e)

    pick-old : (v j : ℕ) (a : (v ≡ u) ⊎ (v ≢ u)) (b : (j ≡ next) ⊎ (j ≢ next)) → IsDone done v j → pick v j a b ≡ rank v j
    pick-old v j (inl same) (inl last) d = (let l : j < done_at done u = subst (λ n. j < done_at done n) same d in absurd (omega arith))
    pick-old v j (inl same) (inr before) d = refl
    pick-old v j (inr other) (inl last) d = refl
    pick-old v j (inr other) (inr before) d = refl

    abbrev new_rank : ℕ → ℕ → ℕ
    new_rank v j = pick v j (cases_eq v u) (cases_eq j next)

    is-last : (v j : ℕ) → v ≡ u → j ≡ next → new_rank v j ≡ bound
    is-last v j e f = pick-last v j (cases_eq v u) (cases_eq j next) e f

    is-old : (v j : ℕ) → IsDone done v j → new_rank v j ≡ rank v j
    is-old v j d = pick-old v j (cases_eq v u) (cases_eq j next) d

    is-lower : (v j : ℕ) → IsDone done v j → new_rank v j < bound
    is-lower v j d = subst (λ n. n < bound) (sym (is-old v j d)) (ordered.past v j d)

    ordered-more : Ordered W more new_rank (suc bound)
    ordered-more = record {
      past = λ v j d. elim (was-done v j d) [
        | inl old ↦ (let l : new_rank v j < bound = is-lower v j old in omega arith)
        | inr now ↦ (let e : new_rank v j ≡ bound = is-last v j now.0 now.1 in omega arith)
      ];
      rises = λ v j d. elim (was-done v (suc j) d) [
        | inl old ↦ (let before : IsDone done v j = omega arith in
            let a : new_rank v j ≡ rank v j = is-old v j before in
            let b : new_rank v (suc j) ≡ rank v (suc j) = is-old v (suc j) old in
            let l : rank v j < rank v (suc j) = ordered.rises v j old in omega arith)
        | inr now ↦ (let f = now.1 in
            let r : j < next = omega arith in
            let a : new_rank v j < bound = is-lower v j (subst (λ n. j < done_at done n) (sym now.0) r) in
            let b : new_rank v (suc j) ≡ bound = is-last v (suc j) now.0 now.1 in omega arith)
      ];
      creates = λ v j t is d. elim (was-done t 0 d) [
        | inl old ↦ (let c : IsDone done v j × (rank v j < rank t 0) = ordered.creates v j t is old in
            let a : new_rank v j ≡ rank v j = is-old v j c.0 in
            let b : new_rank t 0 ≡ rank t 0 = is-old t 0 old in
            let l = c.1 in (still-done v j c.0, (let r : new_rank v j < new_rank t 0 = omega arith in r)))
        | inr now ↦ (let before : IsDone done v j = born v j (subst (λ n. creates_at W v j ≡ Some (unit_no n)) now.0 is) in
            let a : new_rank v j < bound = is-lower v j before in
            let b : new_rank t 0 ≡ bound = is-last t 0 now.0 now.1 in (still-done v j before, (let r : new_rank v j < new_rank t 0 = omega arith in r)))
      ];
      needs = λ v j i is d. elim (was-done v j d) [
        | inl old ↦ (let n : (h : HasMet W done i) × (rank h.0 h.1 < rank v j) = ordered.needs v j i is old in
            let h : HasMet W done i = n.0 in
            let l : rank h.0 h.1 < rank v j = n.1 in
            let a : new_rank h.0 h.1 ≡ rank h.0 h.1 = is-old h.0 h.1 h.4 in
            let b : new_rank v j ≡ rank v j = is-old v j old in (still-met i h, (let r : new_rank h.0 h.1 < new_rank v j = omega arith in r)))
        | inr now ↦ (let h : HasMet W done i = met i (subst (λ n. need_at W u n ≡ Some i) now.1 (subst (λ n. need_at W n j ≡ Some i) now.0 is)) in
            let a : new_rank h.0 h.1 < bound = is-lower h.0 h.1 h.4 in
            let b : new_rank v j ≡ bound = is-last v j now.0 now.1 in (still-met i h, (let r : new_rank h.0 h.1 < new_rank v j = omega arith in r)))
      ];
    }

  pub order-more : HasOrder W done → IsBorn W done u → ((i : ℕ) → need_at W u next ≡ Some i → HasMet W done i) → HasOrder W more
  order-more order born met = (new_rank order.0 order.1 order.2 born met, suc order.1, ordered-more order.0 order.1 order.2 born met)
