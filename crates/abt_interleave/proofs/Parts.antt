-- What a list of deeds is to one stream and to one object.
use Rattle.std.proofs.Common.{◌≡◌, ◌≢◌, ℕ, ◌<◌, ◌==◌, if◌then◌else◌, true, false, List, [], ◌∷◌, Option, Some, None, refl, sym, ◌∙◌, ap, subst, ◌⊎◌, inl, inr}
use Rattle.std.proofs.lemmas.Bool.{cond-true, cond_both, cases_Bool, eq-eqb, eqb-true}
use Rattle.abt_interleave.specs.Deeds.{Heard}
use Rattle.abt_interleave.specs.Logs.{LeavesEntry, IsBefore, BeforeAll, InOrder}
use Rattle.abt_interleave.specs.Machines.{Machine, DeedOf, EntryOf, TellsPlaces}
use Rattle.abt_interleave.proofs.Members.{Among}
use Rattle.abt_interleave.proofs.Orders.{IsEntryBefore}

module _ (M : Machine) where
  abbrev pub of_stream : ℕ → List (DeedOf M) → List (DeedOf M)
  of_stream s [] = []
  of_stream s (d ∷ ds) = if d.stream == s then d ∷ of_stream s ds else of_stream s ds

  -- the entry that a call leaves at x, before these
  abbrev pub entry_at : M.Place → ℕ → ℕ → Option (Heard M.Place M.Act M.Answer) → List (EntryOf M) → List (EntryOf M)
  entry_at x t s None es = es
  entry_at x t s (Some h) es = if M.same h.0 x then record { stamp = t; caller = s; act = h.1; answer = h.2 } ∷ es else es

  abbrev pub of_place : M.Place → List (DeedOf M) → List (EntryOf M)
  of_place x [] = []
  of_place x (d ∷ ds) = entry_at x d.stamp d.stream d.heard (of_place x ds)

  -- Of one stream.

  before-of_stream : (R : DeedOf M → DeedOf M → Type 0) (s : ℕ) (a : DeedOf M) (J : List (DeedOf M)) → BeforeAll R a J → BeforeAll R a (of_stream s J)
  before-of_stream R s a [] h = tt
  before-of_stream R s a (d ∷ ds) h = cond_both (d.stream == s) (d ∷ of_stream s ds) (of_stream s ds) (BeforeAll R a) (λ _. (h.0, before-of_stream R s a ds h.1)) (λ _. before-of_stream R s a ds h.1)

  pub in-order-of_stream : (R : DeedOf M → DeedOf M → Type 0) (s : ℕ) (J : List (DeedOf M)) → InOrder R J → InOrder R (of_stream s J)
  in-order-of_stream R s [] h = tt
  in-order-of_stream R s (d ∷ ds) h = cond_both (d.stream == s) (d ∷ of_stream s ds) (of_stream s ds) (InOrder R) (λ _. (before-of_stream R s d ds h.0, in-order-of_stream R s ds h.1)) (λ _. in-order-of_stream R s ds h.1)

  pub among-of_stream : (s : ℕ) (a : DeedOf M) (J : List (DeedOf M)) → Among a (of_stream s J) → Among a J × (a.stream ≡ s)
  among-of_stream s a [] = λ m. absurd m
  among-of_stream s a (d ∷ ds) =
      cond_both (d.stream == s) (d ∷ of_stream s ds) (of_stream s ds) (λ ys. Among a ys → Among a (d ∷ ds) × (a.stream ≡ s))
      (λ e m. elim m [ inl q ↦ (inl q, ap (λ (b : DeedOf M). b.stream) q ∙ eqb-true d.stream s e) | inr n ↦ (let r : Among a ds × (a.stream ≡ s) = among-of_stream s a ds n in (inr r.0, r.1)) ])
      (λ _ m. let r : Among a ds × (a.stream ≡ s) = among-of_stream s a ds m in (inr r.0, r.1))

  pub to-of_stream : (s : ℕ) (a : DeedOf M) (J : List (DeedOf M)) → Among a J → a.stream ≡ s → Among a (of_stream s J)
  to-of_stream s a [] m e = absurd m
  to-of_stream s a (d ∷ ds) m e =
      cond_both (d.stream == s) (d ∷ of_stream s ds) (of_stream s ds) (Among a)
      (λ _. elim m [ inl q ↦ inl q | inr n ↦ inr (to-of_stream s a ds n e) ])
      (λ f. elim m [ inl q ↦ absurd (differ (sym (eq-eqb d.stream s (sym (ap (λ (b : DeedOf M). b.stream) q) ∙ e)) ∙ f)) | inr n ↦ to-of_stream s a ds n e ]) where
        differ : true ≡ false → ⊥
        differ e = cc

  -- Of one object.

  module _ (tells : TellsPlaces M) where
    pub same-self : (x : M.Place) → M.same x x ≡ true
    same-self x = (tells x x).1 refl

    pub not-same : (x y : M.Place) → x ≢ y → M.same x y ≡ false
    not-same x y ne = elim (cases_Bool (M.same x y)) [ inl e ↦ absurd (ne ((tells x y).0 e)) | inr e ↦ e ]

    -- two places are one, or they are not
    pub cases-place : (x y : M.Place) → (x ≡ y) ⊎ (x ≢ y)
    cases-place x y = elim (cases_Bool (M.same x y)) [ inl e ↦ inl ((tells x y).0 e) | inr e ↦ inr (λ q. differ (sym e ∙ (tells x y).1 q)) ] where
      differ : false ≡ true → ⊥
      differ e = cc

    before-entry : (x : M.Place) (a : EntryOf M) (t s : ℕ) (h : Option (Heard M.Place M.Act M.Answer)) (es : List (EntryOf M)) →
        ((e : EntryOf M) → e.stamp ≡ t → e.caller ≡ s → IsEntryBefore a e) → BeforeAll IsEntryBefore a es → BeforeAll IsEntryBefore a (entry_at x t s h es)
    before-entry x a t s None es b h = h
    before-entry x a t s (Some k) es b h =
        cond_both (M.same k.0 x) (record { stamp = t; caller = s; act = k.1; answer = k.2 } ∷ es) es (BeforeAll IsEntryBefore a)
        (λ _. (b (record { stamp = t; caller = s; act = k.1; answer = k.2 }) refl refl, h)) (λ _. h)

    before-of_place : (x : M.Place) (a : EntryOf M) (d : DeedOf M) (J : List (DeedOf M)) → a.stamp ≡ d.stamp → a.caller ≡ d.stream → BeforeAll IsBefore d J → BeforeAll IsEntryBefore a (of_place x J)
    before-of_place x a d [] t s h = tt
    before-of_place x a d (f ∷ fs) t s h =
        before-entry x a f.stamp f.stream f.heard (of_place x fs)
        (λ e u r. elim h.0 [ inl l ↦ inl (subst (λ n. a.stamp < n) (sym u) (subst (λ n. n < f.stamp) (sym t) l)) | inr p ↦ inr (t ∙ (p.0 ∙ sym u), subst (λ n. a.caller < n) (sym r) (subst (λ n. n < f.stream) (sym s) p.1)) ])
        (before-of_place x a d fs t s h.1)

    in-order-entry : (x : M.Place) (t s : ℕ) (h : Option (Heard M.Place M.Act M.Answer)) (es : List (EntryOf M)) →
        ((e : EntryOf M) → e.stamp ≡ t → e.caller ≡ s → BeforeAll IsEntryBefore e es) → InOrder IsEntryBefore es → InOrder IsEntryBefore (entry_at x t s h es)
    in-order-entry x t s None es b h = h
    in-order-entry x t s (Some k) es b h =
        cond_both (M.same k.0 x) (record { stamp = t; caller = s; act = k.1; answer = k.2 } ∷ es) es (InOrder IsEntryBefore)
        (λ _. (b (record { stamp = t; caller = s; act = k.1; answer = k.2 }) refl refl, h)) (λ _. h)

    pub in-order-of_place : (x : M.Place) (J : List (DeedOf M)) → InOrder IsBefore J → InOrder IsEntryBefore (of_place x J)
    in-order-of_place x [] h = tt
    in-order-of_place x (d ∷ ds) h =
        in-order-entry x d.stamp d.stream d.heard (of_place x ds) (λ e t s. before-of_place x e d ds t s h.0) (in-order-of_place x ds h.1)

    among-entry : (x : M.Place) (e : EntryOf M) (d : DeedOf M) (h : Option (Heard M.Place M.Act M.Answer)) (es : List (EntryOf M)) → d.heard ≡ h → Among e (entry_at x d.stamp d.stream h es) → LeavesEntry d x e ⊎ Among e es
    among-entry x e d None es q = λ m. inr m
    among-entry x e d (Some k) es q =
        cond_both (M.same k.0 x) (record { stamp = d.stamp; caller = d.stream; act = k.1; answer = k.2 } ∷ es) es (λ ys. Among e ys → LeavesEntry d x e ⊎ Among e es)
        (λ p m. elim m [
          | inl i ↦ inl (
            ap (λ (z : EntryOf M). z.stamp) (sym i),
            ap (λ (z : EntryOf M). z.caller) (sym i),
            q ∙ (λ j. Some ((tells k.0 x).0 p j, (sym i j).act, (sym i j).answer)),
          )
          | inr n ↦ inr n
        ])
        (λ _ m. inr m)

    -- an entry there is of a deed
    pub among-of_place : (x : M.Place) (e : EntryOf M) (J : List (DeedOf M)) → Among e (of_place x J) → (d : DeedOf M) × Among d J × LeavesEntry d x e
    among-of_place x e [] m = absurd m
    among-of_place x e (d ∷ ds) m =
        elim (among-entry x e d d.heard (of_place x ds) refl m) [
          | inl l ↦ (d, inl refl, l)
          | inr n ↦ (let r : (d : DeedOf M) × Among d ds × LeavesEntry d x e = among-of_place x e ds n in (r.0, inr r.1, r.2))
        ]

    entry-stays : (x : M.Place) (e : EntryOf M) (t s : ℕ) (h : Option (Heard M.Place M.Act M.Answer)) (es : List (EntryOf M)) → Among e es → Among e (entry_at x t s h es)
    entry-stays x e t s None es m = m
    entry-stays x e t s (Some k) es m = cond_both (M.same k.0 x) (record { stamp = t; caller = s; act = k.1; answer = k.2 } ∷ es) es (Among e) (λ _. inr m) (λ _. m)

    entry-new : (x : M.Place) (e : EntryOf M) (es : List (EntryOf M)) → Among e (entry_at x e.stamp e.caller (Some (x, e.act, e.answer)) es)
    entry-new x e es = subst (Among e) (sym (cond-true (M.same x x) (e ∷ es) es (same-self x))) (inl refl)

    -- a deed's entry is there
    pub to-of_place : (x : M.Place) (e : EntryOf M) (d : DeedOf M) (J : List (DeedOf M)) → Among d J → LeavesEntry d x e → Among e (of_place x J)
    to-of_place x e d [] m l = absurd m
    to-of_place x e d (f ∷ fs) m l =
        elim m [
          | inl q ↦ subst (Among e) (λ i. entry_at x ((sym l.0 ∙ ap (λ (z : DeedOf M). z.stamp) q) i) ((sym l.1 ∙ ap (λ (z : DeedOf M). z.stream) q) i) ((sym l.2 ∙ ap (λ (z : DeedOf M). z.heard) q) i) (of_place x fs)) (entry-new x e (of_place x fs))
          | inr n ↦ entry-stays x e f.stamp f.stream f.heard (of_place x fs) (to-of_place x e d fs n l)
        ]
