-- Lists whose stamps rise, and clocks.
use Rattle.std.proofs.Common.{◌≡◌, ℕ, suc, ◌<◌, ◌≤◌, ◌⊎◌, inl, inr, List, [], ◌∷◌, map, refl, sym, ap, subst, arith}
use Rattle.abt_interleave.specs.Histories.{RisesAbove, last_from}
use Rattle.abt_interleave.specs.Deeds.{Deed}
use Rattle.abt_interleave.specs.Logs.{IsBefore, InOrder}
use Rattle.abt_interleave.proofs.Members.{Among}
use Rattle.abt_interleave.proofs.Orders.{before-among, before-one-way}

module _ {A : Type 0} (stamp : A → ℕ) where
  pub among-above : (n : ℕ) (xs : List A) (x : A) → RisesAbove n (map stamp xs) → Among x xs → n < stamp x
  among-above n [] x r m = absurd m
  among-above n (y ∷ ys) x r m = elim m [
    | inl e ↦ subst (λ z. n < stamp z) (sym e) r.0
    | inr k ↦ (let l : n < stamp y = r.0 in let h : stamp y < stamp x = among-above (stamp y) ys x r.1 k in omega arith)
  ]

  -- the last stamp is a member's, if there is one
  pub last-among : (n : ℕ) (xs : List A) → (last_from n (map stamp xs) ≡ n) ⊎ ((x : A) × Among x xs × (stamp x ≡ last_from n (map stamp xs)))
  last-among n [] = inl refl
  last-among n (x ∷ xs) = elim (last-among (stamp x) xs) [ inl e ↦ inr (x, inl refl, sym e) | inr r ↦ inr (r.0, inr r.1, r.2) ]

module _ {Place Act Answer What : Type 0} where
  -- from t on, each stamp is at most one more than the one before
  abbrev pub Close : ℕ → List (Deed Place Act Answer What) → Type 0
  Close t [] = Unit {0}
  Close t (d ∷ ds) = (d.stamp ≤ suc t) × Close d.stamp ds

  -- at most one more than t, or one more than another
  abbrev pub HasLower : ℕ → List (Deed Place Act Answer What) → Deed Place Act Answer What → Type 0
  HasLower t ds d = (d.stamp ≤ suc t) ⊎ ((e : Deed Place Act Answer What) × Among e ds × (d.stamp ≡ suc e.stamp))

  pub not-later : (d e : Deed Place Act Answer What) → IsBefore d e → d.stamp ≤ e.stamp
  not-later d e h = elim h [ inl l ↦ (let k : d.stamp < e.stamp = l in omega arith) | inr q ↦ (let k : d.stamp ≡ e.stamp = q.0 in omega arith) ]

  pub close : (t : ℕ) (ds : List (Deed Place Act Answer What)) → InOrder IsBefore ds → ((d : Deed Place Act Answer What) → Among d ds → t ≤ d.stamp) → ((d : Deed Place Act Answer What) → Among d ds → HasLower t ds d) → Close t ds
  close t [] r low has = tt
  close t (d ∷ ds) r low has = (
    first (has d (inl refl)),
    close d.stamp ds r.1 (λ e m. not-later d e (before-among IsBefore before-one-way d e ds r.0 m)) (λ e m. next e (has e (inr m))),
  ) where
    first : HasLower t (d ∷ ds) d → d.stamp ≤ suc t
    first (inl l) = l
    first (inr h) = elim h.1 [
      | inl e ↦ (let q : d.stamp ≡ suc h.0.stamp = h.2 in let p : h.0.stamp ≡ d.stamp = ap (λ (z : Deed Place Act Answer What). z.stamp) e in absurd (omega arith))
      | inr m ↦ (let q : d.stamp ≡ suc h.0.stamp = h.2 in let p : d.stamp ≤ h.0.stamp = not-later d h.0 (before-among IsBefore before-one-way d h.0 ds r.0 m) in absurd (omega arith))
    ]

    next : (e : Deed Place Act Answer What) → HasLower t (d ∷ ds) e → HasLower d.stamp ds e
    next e (inl l) = let b : t ≤ d.stamp = low d (inl refl) in let k : e.stamp ≤ suc t = l in inl (omega arith)
    next e (inr h) = elim h.1 [
      | inl i ↦ (let q : e.stamp ≡ suc h.0.stamp = h.2 in let p : h.0.stamp ≡ d.stamp = ap (λ (z : Deed Place Act Answer What). z.stamp) i in inl (omega arith))
      | inr n ↦ inr (h.0, n, h.2)
    ]
