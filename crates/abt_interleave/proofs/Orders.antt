-- Lists in order: two with the same members are one.
use Rattle.std.proofs.Common.{◌≡◌, ℕ, ◌<◌, ◌≤◌, inl, inr, List, [], ◌∷◌, map, refl, sym, ap, ap₂, ◌∙◌, subst, arith}
use Rattle.abt_interleave.specs.declared.entries.Entry.{Entry}
use Rattle.abt_interleave.specs.Histories.{RisesAbove}
use Rattle.abt_interleave.specs.Deeds.{Deed}
use Rattle.abt_interleave.specs.Logs.{IsSooner, IsBefore, BeforeAll, InOrder}
use Rattle.abt_interleave.proofs.Members.{Among}

-- Of an order that does not go both ways.

module _ {A : Type 0} (R : A → A → Type 0) (one-way : (a b : A) → R a b → R b a → ⊥) where
  pub before-among : (a x : A) (xs : List A) → BeforeAll R a xs → Among x xs → R a x
  before-among a x [] h m = absurd m
  before-among a x (y ∷ ys) h m = elim m [ inl e ↦ subst (R a) (sym e) h.0 | inr n ↦ before-among a x ys h.1 n ]

  -- none comes before itself
  not-self : (a b : A) → a ≡ b → R a b → ⊥
  not-self a b e h = one-way a b h (subst (λ c. R c a) e (subst (R a) (sym e) h))

  pub in-order-unique : (xs ys : List A) → InOrder R xs → InOrder R ys → ((a : A) → Among a xs → Among a ys) → ((a : A) → Among a ys → Among a xs) → xs ≡ ys
  in-order-unique [] [] rx ry to from = refl
  in-order-unique [] (y ∷ ys) rx ry to from = absurd (from y (inl refl))
  in-order-unique (x ∷ xs) [] rx ry to from = absurd (to x (inl refl))
  in-order-unique (x ∷ xs) (y ∷ ys) rx ry to from =
      let same : x ≡ y = heads (to x (inl refl)) (from y (inl refl)) in
      ap₂ (λ (z : A) (zs : List A). z ∷ zs) same (in-order-unique xs ys rx.1 ry.1
      (λ a m. elim (to a (inr m)) [ inl e ↦ absurd (not-self x a (same ∙ sym e) (before-among x a xs rx.0 m)) | inr n ↦ n ])
      (λ a m. elim (from a (inr m)) [ inl e ↦ absurd (not-self y a (sym same ∙ sym e) (before-among y a ys ry.0 m)) | inr n ↦ n ])) where
        heads : Among x (y ∷ ys) → Among y (x ∷ xs) → x ≡ y
        heads m n = elim m [ inl e ↦ e | inr i ↦ elim n [ inl e ↦ sym e | inr j ↦ absurd (one-way y x (before-among y x ys ry.0 i) (before-among x y xs rx.0 j)) ] ]

-- By stamp and stream.

pub sooner-one-way : (t s u r : ℕ) → IsSooner t s u r → IsSooner u r t s → ⊥
sooner-one-way t s u r h g =
    elim h [
      | inl l ↦ (let k : t < u = l in elim g [ inl m ↦ (let n : u < t = m in absurd (omega arith)) | inr q ↦ (let n : u ≡ t = q.0 in absurd (omega arith)) ])
      | inr p ↦ (let k : t ≡ u = p.0 in let j : s < r = p.1 in elim g [ inl m ↦ (let n : u < t = m in absurd (omega arith)) | inr q ↦ (let n : r < s = q.1 in absurd (omega arith)) ])
    ]

pub before-one-way : {Place Act Answer What : Type 0} (d e : Deed Place Act Answer What) → IsBefore d e → IsBefore e d → ⊥
before-one-way d e = sooner-one-way d.stamp d.stream e.stamp e.stream

abbrev pub IsEntryBefore : {Act Answer : Type 0} → Entry Act Answer → Entry Act Answer → Type 0
IsEntryBefore e f = IsSooner e.stamp e.caller f.stamp f.caller

pub entry-one-way : {Act Answer : Type 0} (e f : Entry Act Answer) → IsEntryBefore e f → IsEntryBefore f e → ⊥
entry-one-way e f = sooner-one-way e.stamp e.caller f.stamp f.caller

-- Of anything by a stamp that rises.

module _ {A : Type 0} (stamp : A → ℕ) where
  abbrev pub IsEarlier : A → A → Type 0
  IsEarlier a b = stamp a < stamp b

  pub earlier-one-way : (a b : A) → IsEarlier a b → IsEarlier b a → ⊥
  earlier-one-way a b h g = let k : stamp a < stamp b = h in let n : stamp b < stamp a = g in absurd (omega arith)

  pub rises-earlier : (a : A) (n : ℕ) (xs : List A) → stamp a ≤ n → RisesAbove n (map stamp xs) → BeforeAll IsEarlier a xs
  rises-earlier a n [] l r = tt
  rises-earlier a n (x ∷ xs) l r = let k : n < stamp x = r.0 in (omega arith, rises-earlier a (stamp x) xs (omega arith) r.1)

  pub rises-in-order : (n : ℕ) (xs : List A) → RisesAbove n (map stamp xs) → InOrder IsEarlier xs
  rises-in-order n [] r = tt
  rises-in-order n (x ∷ xs) r = (rises-earlier x (stamp x) xs (omega arith) r.1, rises-in-order (stamp x) xs r.1)

  -- of two members with one stamp there is but one
  pub one-stamp : (xs : List A) (a b : A) → InOrder IsEarlier xs → Among a xs → Among b xs → stamp a ≡ stamp b → a ≡ b
  one-stamp [] a b r m n e = absurd m
  one-stamp (x ∷ xs) a b r m n e =
      elim m [
        | inl i ↦ elim n [
          | inl j ↦ i ∙ sym j
          | inr j ↦ (let k : stamp x < stamp b = before-among IsEarlier earlier-one-way x b xs r.0 j in let q : stamp a ≡ stamp x = ap stamp i in absurd (omega arith))
        ]
        | inr i ↦ elim n [
          | inl j ↦ (let k : stamp x < stamp a = before-among IsEarlier earlier-one-way x a xs r.0 i in let q : stamp b ≡ stamp x = ap stamp j in absurd (omega arith))
          | inr j ↦ one-stamp xs a b r.1 i j e
        ]
      ]

-- What rises strictly by stamp is in any order in which what is earlier comes first.

module _ {A : Type 0} (stamp : A → ℕ) (R : A → A → Type 0) (goes : (a b : A) → IsEarlier stamp a b → R a b) where
  pub earlier-first : (a : A) (xs : List A) → BeforeAll (IsEarlier stamp) a xs → BeforeAll R a xs
  earlier-first a [] h = tt
  earlier-first a (x ∷ xs) h = (goes a x h.0, earlier-first a xs h.1)

  earlier-in-order : (xs : List A) → InOrder (IsEarlier stamp) xs → InOrder R xs
  earlier-in-order [] h = tt
  earlier-in-order (x ∷ xs) h = (earlier-first x xs h.0, earlier-in-order xs h.1)

  pub stamps-in-order : (xs : List A) → RisesAbove 0 (map stamp xs) → InOrder R xs
  stamps-in-order xs r = earlier-in-order xs (rises-in-order stamp 0 xs r)
