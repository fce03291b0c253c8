-- What streams see of lines.
use Rattle.std.proofs.Common.{◌≡◌, ℕ, ◌⊎◌, inl, inr, List, [], ◌∷◌, ◌++◌, Option, Some, None, refl, sym, ◌∙◌, ap, subst}
use mathlib.Core.List.{IsPrefix}
use Rattle.std.proofs.lemmas.List.{append_assoc, append-nil}
use Rattle.abt_interleave.specs.declared.entries.Entry.{Entry}
use Rattle.abt_interleave.specs.Histories.{last_from, Extends}
use Rattle.abt_interleave.specs.Deeds.{Heard, deed_stamps}
use Rattle.abt_interleave.specs.Machines.{Machine, DeedOf}
use Rattle.abt_interleave.specs.Lines.{CallOf, call_of, Sees, Walks, Stands, AllStand}
use Rattle.abt_interleave.specs.Weaving.{TellsLocks, GoneNowhere, GoneFurther, OwnDeedsShow, GoneAlong}
use Rattle.abt_interleave.proofs.Members.{Among}
use Rattle.abt_interleave.proofs.Grown.{does-join}
use Rattle.abt_interleave.proofs.OneList.{to-of, among-of}

-- Lists.

pub prefix-self : {A : Type 0} (xs : List A) → IsPrefix xs xs
prefix-self xs = ([], append-nil xs)

pub prefix-then : {A : Type 0} (xs ys zs : List A) → IsPrefix xs ys → IsPrefix ys zs → IsPrefix xs zs
prefix-then {A} xs ys zs f g = (f.0 ++ g.0, sym (append_assoc xs f.0 g.0) ∙ (ap (λ (us : List A). us ++ g.0) f.1 ∙ g.1))

pub among-push : {A : Type 0} (x y : A) (xs : List A) → Among x (xs ++ y ∷ []) → Among x xs ⊎ (x ≡ y)
among-push x y [] m = elim m [ inl e ↦ inr e | inr n ↦ absurd n ]
among-push x y (z ∷ zs) m = elim m [ inl e ↦ inl (inl e) | inr n ↦ elim (among-push x y zs n) [ inl k ↦ inl (inr k) | inr e ↦ inr e ] ]

pub among-right : {A : Type 0} (x : A) (xs ys : List A) → Among x ys → Among x (xs ++ ys)
among-right x [] ys m = m
among-right x (z ∷ zs) ys m = inr (among-right x zs ys m)

pub among-left : {A : Type 0} (x : A) (xs ys : List A) → Among x xs → Among x (xs ++ ys)
among-left x [] ys m = absurd m
among-left x (z ∷ zs) ys m = elim m [ inl e ↦ inl e | inr n ↦ inr (among-left x zs ys n) ]

module _ {Act Answer : Type 0} where
  pub extends-self : (s : ℕ) (line : List (Entry Act Answer)) → Extends s line line
  extends-self s line = (prefix-self line, refl)

  pub extends-then : (s : ℕ) (a b c : List (Entry Act Answer)) → Extends s a b → Extends s b c → Extends s a c
  extends-then s a b c f g = (prefix-then a b c f.0 g.0, g.1 ∙ f.1)

  -- a call of caller s in the line was seen
  pub extends-calls : (s : ℕ) (seen line : List (Entry Act Answer)) → Extends s seen line → (c : Entry Act Answer) → Among c line → c.caller ≡ s → Among c seen
  extends-calls s seen line x c m own = (among-of (λ (e : Entry Act Answer). e.stamp) (λ (e : Entry Act Answer). e.caller) s c seen (subst (Among c) x.1 (to-of (λ (e : Entry Act Answer). e.stamp) (λ (e : Entry Act Answer). e.caller) s c line m own))).0

module _ (M : Machine) where
  module _ {Lock : Type 0} (lock : M.Place → Lock) (carried : Lock → ℕ) where
    -- Walks grow.

    pub sees-then : (s : ℕ) (a b after : Lock → List (CallOf M)) (clock : ℕ) (d : DeedOf M) (heard : Option (Heard M.Place M.Act M.Answer)) →
        ((l : Lock) → Extends s (a l) (b l)) → Sees M lock carried s b clock d heard after → Sees M lock carried s a clock d heard after
    sees-then s a b after clock d None x w = (w.0, λ l. extends-then s (a l) (b l) (after l) (x l) (w.1 l))
    sees-then s a b after clock d (Some h) x w =
        (λ l ne. extends-then s (a l) (b l) (after l) (x l) (w.0 l ne), w.1, extends-then s (a (lock h.0)) (b (lock h.0)) w.1 (x (lock h.0)) w.2, w.3, w.4)

    grow : (s clock : ℕ) (before seen after : Lock → List (CallOf M)) (ds : List (DeedOf M)) (d : DeedOf M) →
        Walks M lock carried s before clock ds seen → Sees M lock carried s seen (last_from clock (deed_stamps ds)) d d.heard after → Walks M lock carried s before clock (ds ++ d ∷ []) after
    grow s clock before seen after [] d w x = (after, sees-then s before seen after clock d d.heard w x, λ l. extends-self s (after l))
    grow s clock before seen after (e ∷ es) d w x = (w.0, w.1, grow s e.stamp w.0 seen after es d w.2 x)

    stay : (s clock : ℕ) (before seen after : Lock → List (CallOf M)) (ds : List (DeedOf M)) →
        Walks M lock carried s before clock ds seen → ((l : Lock) → Extends s (seen l) (after l)) → Walks M lock carried s before clock ds after
    stay s clock before seen after [] w x = λ l. extends-then s (before l) (seen l) (after l) (w l) (x l)
    stay s clock before seen after (e ∷ es) w x = (w.0, w.1, stay s e.stamp w.0 seen after es w.2 x)

    module _ (tells : TellsLocks Lock) where
      -- What was seen is a prefix of what is seen.

      sees-prefix : (s : ℕ) (before after : Lock → List (CallOf M)) (clock : ℕ) (d : DeedOf M) (heard : Option (Heard M.Place M.Act M.Answer)) → Sees M lock carried s before clock d heard after → (l : Lock) → IsPrefix (before l) (after l)
      sees-prefix s before after clock d None w l = (w.1 l).0
      sees-prefix s before after clock d (Some h) w l = elim (tells (lock h.0) l) [
        | inl e ↦ subst (λ k. IsPrefix (before k) (after k)) e (prefix-then (before (lock h.0)) w.1 (after (lock h.0)) w.2.0 (call_of M d h ∷ [], sym w.3))
        | inr ne ↦ (w.0 l ne).0
      ]

      walks-prefix : (s clock : ℕ) (before after : Lock → List (CallOf M)) (ds : List (DeedOf M)) → Walks M lock carried s before clock ds after → (l : Lock) → IsPrefix (before l) (after l)
      walks-prefix s clock before after [] w l = (w l).0
      walks-prefix s clock before after (d ∷ ds) w l = prefix-then (before l) (w.0 l) (after l) (sees-prefix s before w.0 clock d d.heard w.1 l) (walks-prefix s d.stamp w.0 after ds w.2 l)

      -- So each deed stands in the lines.

      stands : (s : ℕ) (before after lines : Lock → List (CallOf M)) (clock : ℕ) (d : DeedOf M) (heard : Option (Heard M.Place M.Act M.Answer)) → Sees M lock carried s before clock d heard after → ((l : Lock) → IsPrefix (after l) (lines l)) → Stands M lock carried lines clock d heard
      stands s before after lines clock d None w x = w.0
      stands s before after lines clock d (Some h) w x =
          let p : IsPrefix (after (lock h.0)) (lines (lock h.0)) = x (lock h.0) in
          (w.1, p.0, sym p.1 ∙ (ap (λ (ys : List (CallOf M)). ys ++ p.0) w.3 ∙ append_assoc w.1 (call_of M d h ∷ []) p.0), w.4)

      pub all-stand : (s clock : ℕ) (before after lines : Lock → List (CallOf M)) (ds : List (DeedOf M)) → Walks M lock carried s before clock ds after → ((l : Lock) → IsPrefix (after l) (lines l)) → AllStand M lock carried lines clock ds
      all-stand s clock before after lines [] w x = tt
      all-stand s clock before after lines (d ∷ ds) w x = (
        stands s before w.0 lines clock d d.heard w.1 (λ l. prefix-then (w.0 l) (after l) (lines l) (walks-prefix s d.stamp w.0 after ds w.2 l) (x l)),
        all-stand s d.stamp w.0 after lines ds w.2 x,
      )

      -- A stream's calls in what it has seen are its deeds'.

      abbrev pub IsCalled : Lock → CallOf M → DeedOf M → Type 0
      IsCalled l c d = (h : Heard M.Place M.Act M.Answer) × (d.heard ≡ Some h) × (lock h.0 ≡ l) × (c ≡ call_of M d h)

      sees-calls : (s : ℕ) (before after : Lock → List (CallOf M)) (clock : ℕ) (d : DeedOf M) (heard : Option (Heard M.Place M.Act M.Answer)) → d.heard ≡ heard → Sees M lock carried s before clock d heard after →
          (l : Lock) (c : CallOf M) → Among c (after l) → c.caller ≡ s → Among c (before l) ⊎ IsCalled l c d
      sees-calls s before after clock d None q w l c m own = inl (extends-calls s (before l) (after l) (w.1 l) c m own)
      sees-calls s before after clock d (Some h) q w l c m own = elim (tells (lock h.0) l) [
        | inl e ↦ elim (among-push c (call_of M d h) w.1 (subst (Among c) w.3 (subst (λ k. Among c (after k)) (sym e) m))) [
          | inl n ↦ inl (subst (λ k. Among c (before k)) e (extends-calls s (before (lock h.0)) w.1 w.2 c n own))
          | inr i ↦ inr (h, q, e, i)
        ]
        | inr ne ↦ inl (extends-calls s (before l) (after l) (w.0 l ne) c m own)
      ]

      pub walks-calls : (s clock : ℕ) (before after : Lock → List (CallOf M)) (ds : List (DeedOf M)) → Walks M lock carried s before clock ds after →
          (l : Lock) (c : CallOf M) → Among c (after l) → c.caller ≡ s → Among c (before l) ⊎ ((d : DeedOf M) × Among d ds × IsCalled l c d)
      walks-calls s clock before after [] w l c m own = inl (extends-calls s (before l) (after l) (w l) c m own)
      walks-calls s clock before after (d ∷ ds) w l c m own = elim (walks-calls s d.stamp w.0 after ds w.2 l c m own) [
        | inl n ↦ elim (sees-calls s before w.0 clock d d.heard refl w.1 l c n own) [ inl k ↦ inl k | inr i ↦ inr (d, inl refl, i) ]
        | inr r ↦ inr (r.0, inr r.1, r.2)
      ]

module _ (M : Machine) (Lock : Type 0) where
  pub gone-nowhere : GoneNowhere M Lock
  gone-nowhere lock carried s clock p = record { does = refl; walks = λ l. extends-self s [] }

  pub gone-further : GoneFurther M Lock
  gone-further lock carried s clock p q r log seen after d gone own step sees = record {
    does = does-join M s p q r log (d ∷ []) gone.does (own, r, step, refl);
    walks = grow M lock carried s clock (λ l. []) seen after log d gone.walks sees;
  }

  pub own-deeds-show : OwnDeedsShow M Lock
  own-deeds-show lock carried s clock seen d next = (next, λ l. extends-self s (seen l))

  pub gone-along : GoneAlong M Lock
  gone-along lock carried s clock p q log seen after gone more = record { does = gone.does; walks = stay M lock carried s clock (λ l. []) seen after log gone.walks more }
