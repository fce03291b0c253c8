-- The numbers at the places of a line.
use Rattle.std.proofs.Common.{◌≡◌, ◌<◌, ◌+◌, ◌^◌, ◌&&◌, ◌||◌, ℕ, zero, suc, Bool, true, false, not, List, [], ◌∷◌, Some, add-one, ap, drop, map, nat_lt, refl, subst, arith, slice_get}
use Rattle.std.specs.List.{list_all}
use Rattle.std.proofs.lemmas.Bool.{and_from}
use Rattle.abt_machine.specs.declared.grammar.Number.{Number}
use Rattle.abt_machine.specs.declared.grammar.Number.TheVariants as number
use Rattle.abt_machine.specs.Declaring.{at}
use Rattle.abt_machine.specs.Faults.{valued, values}
use Rattle.abt_machine.specs.Forms.{Slot, Fixed, KindWord, CombineWord, AnyWord, Numeral, PoolList, fits, numerals, suits}
use Rattle.abt_machine.specs.Spelling.{value_of}
use Rattle.abt_machine.specs.Words.{Text}

pub and-left : (x y : Bool) → (x && y) ≡ true → x ≡ true
and-left true y e = refl
and-left false y e = e

pub and-right : (x y : Bool) → (x && y) ≡ true → y ≡ true
and-right true y e = e
and-right false y e = cc

pub or-left : (x y : Bool) → (x || y) ≡ false → x ≡ false
or-left true y e = cc
or-left false y e = refl

pub or-right : (x y : Bool) → (x || y) ≡ false → y ≡ false
or-right true y e = cc
or-right false y e = e

-- neither of two is true
pub or-both : (x y : Bool) → x ≡ false → y ≡ false → (x || y) ≡ false
or-both true y e f = cc
or-both false y e f = f

pub all-both : {X : Type 0} (p q : X → Bool) (xs : List X) → list_all p xs ≡ true → list_all q xs ≡ true → list_all (λ x. p x && q x) xs ≡ true
all-both p q [] e f = refl
all-both p q (x ∷ xs) e f =
    and_from (p x && q x) (list_all (λ y. p y && q y) xs) (and_from (p x) (q x) (and-left (p x) _ e) (and-left (q x) _ f)) (all-both p q xs (and-right (p x) _ e) (and-right (q x) _ f))

-- what the numbers at a line's places are, up to a list of pools
abbrev pub kinds : List Slot → List Number
kinds [] = []
kinds (Numeral n ∷ places) = n ∷ kinds places
kinds (PoolList ∷ places) = []
kinds (slot ∷ places) = kinds places

module _ (P : Number → ℕ → Bool) where
  -- what holds of each number with what it is, holds of the number at a place
  pub at-kind : (places : List Slot) (words : List Text) (k : ℕ) (kind : Number) → fits places words ≡ true → slice_get (kinds places) k ≡ Some kind
      → list_all (λ p. P p.0 p.1) (valued (numerals places words)) ≡ true → P kind (at (values (valued (numerals places words))) k) ≡ true
  at-kind [] words k kind f g h = cc
  at-kind (slot ∷ places) [] k kind f g h = cc
  at-kind (PoolList ∷ places) (w ∷ ws) k kind f g h = cc
  at-kind (Numeral n ∷ places) (w ∷ ws) zero kind f g h = let same : n ≡ kind = cc in subst (λ m. P m (value_of w) ≡ true) same (and-left (P n (value_of w)) _ h)
  at-kind (Numeral n ∷ places) (w ∷ ws) (suc k) kind f g h = at-kind places ws k kind f g (and-right (P n (value_of w)) _ h)
  at-kind (Fixed t ∷ places) (w ∷ ws) k kind f g h = at-kind places ws k kind (and-right (suits (Fixed t) w) _ f) g h
  at-kind (KindWord ∷ places) (w ∷ ws) k kind f g h = at-kind places ws k kind (and-right (suits KindWord w) _ f) g h
  at-kind (CombineWord ∷ places) (w ∷ ws) k kind f g h = at-kind places ws k kind (and-right (suits CombineWord w) _ f) g h
  at-kind (AnyWord ∷ places) (w ∷ ws) k kind f g h = at-kind places ws k kind f g h

-- a number past the first is one of those that follow it
pub at-after : (k : ℕ) (ns : List ℕ) → at ns (k + 1) ≡ at (drop 1 ns) k
at-after k [] = refl
at-after k (n ∷ ns) = let e : k + 1 ≡ suc k = add-one k in ap (at (n ∷ ns)) e

-- Small numbers.

-- whether a number may have more than 32 bits
abbrev pub is_big : Number → Bool
is_big (number.Within low high) = not (nat_lt high (2 ^ 32))
is_big n = false

-- whether the number at a place has 32 bits, if there is one
abbrev pub is_small_at : List Slot → ℕ → Bool
is_small_at [] k = true
is_small_at (PoolList ∷ places) k = true
is_small_at (Numeral n ∷ places) zero = not (is_big n)
is_small_at (Numeral n ∷ places) (suc k) = is_small_at places k
is_small_at (slot ∷ places) k = is_small_at places k

module _ (P : Number → ℕ → Bool) (small : (kind : Number) (n : ℕ) → is_big kind ≡ false → P kind n ≡ true → n < 2 ^ 32) where
  pools-small : (words : List Text) (k : ℕ) → list_all (λ p. P p.0 p.1) (valued (map (λ word. (number.Pool, word)) words)) ≡ true → at (values (valued (map (λ word. (number.Pool, word)) words))) k < 2 ^ 32
  pools-small [] k h = omega arith
  pools-small (w ∷ ws) zero h = small number.Pool (value_of w) refl (and-left (P number.Pool (value_of w)) _ h)
  pools-small (w ∷ ws) (suc k) h = pools-small ws k (and-right (P number.Pool (value_of w)) _ h)

  not-big : (n : Number) → not (is_big n) ≡ true → is_big n ≡ false
  not-big n e = by (is_big n) e
    where
      by : (b : Bool) → not b ≡ true → b ≡ false
      by true e = cc
      by false e = refl

  pub small-at : (places : List Slot) (words : List Text) (k : ℕ) → fits places words ≡ true → is_small_at places k ≡ true
      → list_all (λ p. P p.0 p.1) (valued (numerals places words)) ≡ true → at (values (valued (numerals places words))) k < 2 ^ 32
  small-at [] words k f g h = omega arith
  small-at (slot ∷ places) [] k f g h = cc
  small-at (PoolList ∷ places) (w ∷ ws) k f g h = pools-small (w ∷ ws) k h
  small-at (Numeral n ∷ places) (w ∷ ws) zero f g h = small n (value_of w) (not-big n g) (and-left (P n (value_of w)) _ h)
  small-at (Numeral n ∷ places) (w ∷ ws) (suc k) f g h = small-at places ws k f g (and-right (P n (value_of w)) _ h)
  small-at (Fixed t ∷ places) (w ∷ ws) k f g h = small-at places ws k (and-right (suits (Fixed t) w) _ f) g h
  small-at (KindWord ∷ places) (w ∷ ws) k f g h = small-at places ws k (and-right (suits KindWord w) _ f) g h
  small-at (CombineWord ∷ places) (w ∷ ws) k f g h = small-at places ws k (and-right (suits CombineWord w) _ f) g h
  small-at (AnyWord ∷ places) (w ∷ ws) k f g h = small-at places ws k f g h
