-- What stands at a place of a list.
use Rattle.std.proofs.Common.{◌≡◌, ℕ, zero, suc, ◌<◌, ◌⊎◌, inl, inr, ⊎_elim, List, [], ◌∷◌, ◌++◌, length, get_or, refl, sym, ap, ◌∙◌, arith, Some, None, Option}
use mathlib.Core.Option.{some, some-injective, some-ne-none}
use lib.ListN.{get_elem?}

-- what is found at a place is there
pub index-at : {X : Type 0} (l : List X) (i : ℕ) (a d : X) → get_elem? l i ≡ some a → (i < length l) × (get_or l i d ≡ a)
index-at [] i a d e = absurd (some-ne-none a (sym e))
index-at (x ∷ xs) zero a d e = (omega arith, some-injective x a e)
index-at (x ∷ xs) (suc i) a d e = let t = index-at xs i a d e in let u = t.0 in (omega arith, t.1)

-- a place of the list has something
pub at-or : {X : Type 0} (l : List X) (i : ℕ) (d : X) → i < length l → get_elem? l i ≡ some (get_or l i d)
at-or [] i d h = absurd (omega arith)
at-or (x ∷ xs) zero d h = refl
at-or (x ∷ xs) (suc i) d h = at-or xs i d (omega arith)

-- one more at the end
pub at-end : {X : Type 0} (l : List X) (a b : X) (j : ℕ) → get_elem? (l ++ a ∷ []) j ≡ some b → (get_elem? l j ≡ some b) ⊎ ((j ≡ length l) × (a ≡ b))
at-end [] a b zero e = inr (refl, some-injective a b e)
at-end [] a b (suc j) e = absurd (some-ne-none b (sym e))
at-end (x ∷ xs) a b zero e = inl e
at-end (x ∷ xs) a b (suc j) e = ⊎_elim inl (λ t. inr (ap suc t.0, t.1)) (at-end xs a b j e)

-- a list of one
pub alone : {X : Type 0} (a b : X) (j : ℕ) → get_elem? (a ∷ []) j ≡ some b → (j ≡ 0) × (a ≡ b)
alone a b zero e = (refl, some-injective a b e)
alone a b (suc j) e = absurd (some-ne-none b (sym e))

-- an empty list
pub nowhere : {X : Type 0} (l : List X) (i : ℕ) (a : X) → l ≡ [] → get_elem? l i ≡ some a → ⊥
nowhere l i a e at = some-ne-none a (sym at ∙ ap (λ z. get_elem? z i) e)

-- a place has one thing
pub same-place : {X : Type 0} (l : List X) (i : ℕ) (a b : X) → get_elem? l i ≡ some a → get_elem? l i ≡ some b → a ≡ b
same-place l i a b e f = some-injective a b (sym e ∙ f)

-- what the option has, or the other
unsome : {X : Type 0} → Option X → X → X
unsome (Some x) d = x
unsome None d = d

-- equal options have equal values
pub same-some : {X : Type 0} (x y : X) → Some x ≡ Some y → x ≡ y
unfolding unsome
same-some x y e = ap (λ z. unsome z x) e
