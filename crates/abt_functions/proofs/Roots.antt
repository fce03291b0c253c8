-- The square root, rounded down, is the one number whose square is at most n and the square of whose successor is more.
use Rattle.std.proofs.Common.{◌≡◌, ◌≤◌, ◌<◌, ◌*◌, ◌⊎◌, ℕ, zero, suc, Bool, true, false, arith, cond, inl, inr, nat_le, refl}
use Rattle.std.proofs.Math.Nat.{mul-le-mul}
use Rattle.std.proofs.lemmas.Bool.{leb-false, leb-true}
use Rattle.std.proofs.lemmas.Nat.{mul-lt}
use Rattle.abt_functions.specs.Series.{square_root}

abbrev pub IsRoot : ℕ → ℕ → Type 0
IsRoot n r = (r * r ≤ n) × (n < suc r * suc r)

-- the root of the next number
next-root : (n r : ℕ) (b : Bool) → IsRoot n r → nat_le (suc r * suc r) (suc n) ≡ b → IsRoot (suc n) (cond b (suc r) r)
next-root n r true is at =
    let below : suc r * suc r ≤ suc n = leb-true (suc r * suc r) (suc n) at in
    let above : suc r * suc r < suc (suc r) * suc (suc r) = mul-lt (suc r) (suc r) (suc (suc r)) (suc (suc r)) (omega arith) (omega arith) in
    let last : n < suc r * suc r = is.1 in
    (below, (omega arith))
next-root n r false is at =
    let above : suc n < suc r * suc r = leb-false (suc r * suc r) (suc n) at in
    let below : r * r ≤ n = is.0 in
    ((omega arith), above)

pub is-root : (n : ℕ) → IsRoot n (square_root n)
is-root zero = ((omega arith), (omega arith))
is-root (suc n) = next-root n (square_root n) (nat_le (suc (square_root n) * suc (square_root n)) (suc n)) (is-root n) refl

not-less : (n r s : ℕ) → IsRoot n r → IsRoot n s → r < s → r ≡ s
not-less n r s a b lt =
    let more : suc r * suc r ≤ s * s = mul-le-mul lt lt in
    let most : s * s ≤ n = b.0 in
    let least : n < suc r * suc r = a.1 in
    omega arith

pub one-root : (n r s : ℕ) → IsRoot n r → IsRoot n s → r ≡ s
one-root n r s a b = elim (order r s) [
  | inl lt ↦ not-less n r s a b lt
  | inr rest ↦ elim rest [
    | inl is ↦ is
    | inr gt ↦ (let same : s ≡ r = not-less n s r b a gt in omega arith)
  ]
] where
  order : (r s : ℕ) → (r < s) ⊎ ((r ≡ s) ⊎ (s < r))
  order zero zero = inr (inl refl)
  order zero (suc s) = inl (omega arith)
  order (suc r) zero = inr (inr (omega arith))
  order (suc r) (suc s) = elim (order r s) [
    | inl lt ↦ inl (omega arith)
    | inr rest ↦ elim rest [
      | inl is ↦ inr (inl (omega arith))
      | inr gt ↦ inr (inr (omega arith))
    ]
  ]
