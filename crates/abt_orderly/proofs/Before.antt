-- Which operations come before operation k of unit u.
use Rattle.std.proofs.Common.{◌≡◌, ℕ, ◌+◌, ◌<◌, ◌≤◌, subst, arith, ◌⊎◌, inl, inr}
use Rattle.std.proofs.lemmas.Bool.{cases_eq}
use Rattle.abt_flow.specs.Checks.{Prior}

pub none-before : (v j : ℕ) → Prior v j 0 0 → ⊥
none-before v j (inl l) = absurd (omega arith)
none-before v j (inr h) = let l = h.1 in absurd (omega arith)

pub before-cases : (v j u k : ℕ) → Prior v j u (k + 1) → Prior v j u k ⊎ ((v ≡ u) × (j ≡ k))
before-cases v j u k (inl l) = inl (inl l)
before-cases v j u k (inr h) = elim (cases_eq j k) [ inl same ↦ inr (h.0, same) | inr other ↦ inl (inr (h.0, (let l = h.1 in omega arith))) ]

pub before-more : (v j u k : ℕ) → Prior v j u k → Prior v j u (k + 1)
before-more v j u k (inl l) = inl l
before-more v j u k (inr h) = inr (h.0, (let l = h.1 in omega arith))

-- of the operations of the units up to u, all come before k if unit u has no more
pub before-on : (count : ℕ → ℕ) (v j u k : ℕ) → count u ≤ k → j < count v → Prior v j (u + 1) 0 → Prior v j u k
before-on count v j u k over inside (inr h) = let l = h.1 in absurd (omega arith)
before-on count v j u k over inside (inl l) =
    elim (cases_eq v u) [
      | inl same ↦ (let m : j < count u = subst (λ n. j < count n) same inside in inr (same, omega arith))
      | inr other ↦ inl (omega arith)
    ]

pub before-next : (v j u k : ℕ) → Prior v j u k → Prior v j (u + 1) 0
before-next v j u k (inl l) = inl (omega arith)
before-next v j u k (inr h) = let e = h.0 in inl (omega arith)
