-- The sorted list is stamped if the stamps leave no gap, and as Lamport stamps if each is one more than what it follows.
use Rattle.std.proofs.Common.{◌≡◌, ℕ, suc, max, ◌<◌, ◌≤◌, ◌+◌, ◌⊎◌, inl, inr, List, [], ◌∷◌, ◌++◌, Option, Some, None, option_map, refl, sym, ap, ◌∙◌, subst, arith}
use Rattle.std.specs.Prelude.{Contains}
use Rattle.std.proofs.lemmas.Bool.{cases_lt}
use Rattle.std.proofs.lemmas.List.Elements.{Contains-append_left, Contains-push, Contains-push_cases}
use Rattle.abt_interleave.specs.Histories.{last_stamp, entry_stamps}
use Rattle.abt_interleave.specs.Deeds.{Heard, Deed}
use Rattle.abt_interleave.specs.Logs.{LeavesEntry, IsBefore, BeforeAll, InOrder, IsSorted}
use Rattle.abt_interleave.specs.Machines.{Machine, DeedOf, EntryOf, Gathered}
use Rattle.abt_interleave.specs.Stamps as of
use Rattle.abt_interleave.specs.Stamps.{place_of, AreStamped, AreLamports, LeavesNoGap, IsTimed, AllTimed}
use Rattle.abt_interleave.specs.Laws.{StampsClose, StampsAreLamports}
use Rattle.abt_interleave.proofs.Members.{Among, to-among, from-among}
use Rattle.abt_interleave.proofs.Orders.{before-among, before-one-way, rises-in-order, one-stamp}
use Rattle.abt_interleave.proofs.Clocks.{among-above, last-among, Close, HasLower, not-later, close}
use Rattle.abt_interleave.proofs.Merged.{log-is-own, log-rises, only-logged}

same-some : {A : Type 0} (a b : A) → ◌≡◌ {A = Option A} (Some a) (Some b) → a ≡ b
same-some {A} a b e = ap get e where
  get : Option A → A
  get None = a
  get (Some x) = x

module _ {Place Act Answer What : Type 0} where
  -- the words of stamps, of deeds

  abbrev Shares : Deed Place Act Answer What → Deed Place Act Answer What → Type 0
  Shares d e = of.Shares (λ c. c.stamp) (λ c. c.stream) place_of d e

  abbrev AllAfter : Deed Place Act Answer What → List (Deed Place Act Answer What) → Type 0
  AllAfter d ds = of.AllAfter (λ c. c.stamp) (λ c. c.stream) place_of d ds

  abbrev StampedFrom : Deed Place Act Answer What → List (Deed Place Act Answer What) → Type 0
  StampedFrom d ds = of.StampedFrom (λ c. c.stamp) (λ c. c.stream) place_of d ds

  abbrev IsLeast : List (Deed Place Act Answer What) → Deed Place Act Answer What → Type 0
  IsLeast earlier d = of.IsLeast (λ c. c.stamp) (λ c. c.stream) place_of earlier d

  abbrev LamportFrom : List (Deed Place Act Answer What) → List (Deed Place Act Answer What) → Type 0
  LamportFrom earlier ds = of.LamportFrom (λ c. c.stamp) (λ c. c.stream) place_of earlier ds

module _ (M : Machine) (parts : ℕ → M.Part) (objects : M.Place → M.Object) (logs : ℕ → List (DeedOf M)) (histories : M.Place → List (EntryOf M)) (ends : ℕ → M.Part) (finals : M.Place → M.Object) (gathered : Gathered M parts objects logs histories ends finals)
    (J : List (DeedOf M)) (sorted : IsSorted logs J) where
  -- the entry of a deed that called the object at x
  entry-left : (d : DeedOf M) (x : M.Place) (heard : Option (Heard M.Place M.Act M.Answer)) → d.heard ≡ heard → option_map (λ (h : Heard M.Place M.Act M.Answer). h.0) heard ≡ Some x → (e : EntryOf M) × LeavesEntry d x e
  entry-left d x None q p = absurd cc
  entry-left d x (Some h) q p = (record { stamp = d.stamp; caller = d.stream; act = h.1; answer = h.2 }, (refl, refl, q ∙ (λ i. Some (same-some h.0 x p i, h.1, h.2))))

  -- two deeds of one stamp at one object are of one stream
  one-caller : (d e : DeedOf M) (x : M.Place) → Among d J → Among e J → place_of d ≡ Some x → place_of e ≡ Some x → d.stamp ≡ e.stamp → d.stream ≡ e.stream
  one-caller d e x dm em dx ex q =
      let a : (f : EntryOf M) × LeavesEntry d x f = entry-left d x d.heard refl dx in
      let b : (f : EntryOf M) × LeavesEntry e x f = entry-left e x e.heard refl ex in
      let same : a.0 ≡ b.0 = one-stamp (λ (f : EntryOf M). f.stamp) (histories x) a.0 b.0 (rises-in-order (λ (f : EntryOf M). f.stamp) 0 (histories x) (gathered.legal x).0)
      (to-among (histories x) a.0 (gathered.matched.has_entry d x a.0 (sorted.only d (from-among J d dm)) a.1))
      (to-among (histories x) b.0 (gathered.matched.has_entry e x b.0 (sorted.only e (from-among J e em)) b.1))
      (sym a.1.0 ∙ (q ∙ b.1.0)) in
      a.1.1 ∙ (ap (λ (f : EntryOf M). f.caller) same ∙ sym b.1.1)

  -- of two deeds that share a stream or an object the first has the lower stamp
  shared-rises : (d e : DeedOf M) → Among d J → Among e J → IsBefore d e → Shares d e → d.stamp < e.stamp
  shared-rises d e dm em h shares = elim h [
    | inl l ↦ l
    | inr q ↦ absurd (differ q.1 (elim shares [ inl s ↦ s | inr x ↦ one-caller d e x.0 dm em x.1 x.2 q.0 ]))
  ] where
    differ : d.stream < e.stream → d.stream ≡ e.stream → ⊥
    differ l k = omega arith

  above-none : (d : DeedOf M) → Among d J → 0 < d.stamp
  above-none d m = among-above (λ (e : DeedOf M). e.stamp) 0 (logs d.stream) d (log-rises M parts objects logs histories ends finals gathered d.stream) (only-logged M parts objects logs histories ends finals gathered J sorted d m)

  -- Stamped.

  all-after : (d : DeedOf M) (ds : List (DeedOf M)) → Among d J → ((e : DeedOf M) → Among e ds → Among e J) → BeforeAll IsBefore d ds → AllAfter d ds
  all-after d [] m within h = tt
  all-after d (e ∷ es) m within h = (shared-rises d e m (within e (inl refl)) h.0, all-after d es m (λ f k. within f (inr k)) h.1)

  stamped-from : (d : DeedOf M) (ds : List (DeedOf M)) → ((e : DeedOf M) → Among e (d ∷ ds) → Among e J) → InOrder IsBefore (d ∷ ds) → Close d.stamp ds → StampedFrom d ds
  stamped-from d [] within order c = tt
  stamped-from d (e ∷ es) within order c = (
    follows,
    all-after d (e ∷ es) (within d (inl refl)) (λ f m. within f (inr m)) order.0,
    stamped-from e es (λ f m. within f (inr m)) order.1 c.1,
  ) where
    follows : of.Follows (λ (c : DeedOf M). c.stamp) (λ (c : DeedOf M). c.stream) d e
    follows = (not-later d e order.0.0, (let k : e.stamp ≤ suc d.stamp = c.0 in omega arith), λ q. elim order.0.0 [ inl l ↦ (let k : d.stamp < e.stamp = l in absurd (omega arith)) | inr p ↦ p.1 ])

  stamped : LeavesNoGap logs → AreStamped J
  stamped rule = by J (λ d m. m) sorted.in_order (close 0 J sorted.in_order (λ d m. omega arith) lower) where
    lower : (d : DeedOf M) → Among d J → HasLower 0 J d
    lower d m = elim (rule d.stream d (sorted.only d (from-among J d m))) [
      | inl e ↦ inl (omega arith)
      | inr r ↦ (let q : d.stamp ≡ r.0.stamp + 1 = r.2 in inr (r.0, to-among J r.0 (sorted.all r.0.stream r.0 r.1), omega arith))
    ]

    by : (ds : List (DeedOf M)) → ((e : DeedOf M) → Among e ds → Among e J) → InOrder IsBefore ds → Close 0 ds → AreStamped ds
    by [] within order c = tt
    by (d ∷ ds) within order c = (let k : d.stamp ≤ 1 = c.0 in let l : 0 < d.stamp = above-none d (within d (inl refl)) in omega arith, stamped-from d ds within order c.1)

  -- Lamport's rule.

  -- 1, or one more than that of a deed that shares a stream or an object with it
  abbrev IsSuccessor : DeedOf M → Type 0
  IsSuccessor d = (d.stamp ≡ 1) ⊎ ((e : DeedOf M) × Among e (logs e.stream) × Shares e d × (d.stamp ≡ e.stamp + 1))

  -- the clock is 0, or the stamp of a deed of stream s
  abbrev IsClock : ℕ → ℕ → Type 0
  IsClock s clock = (clock ≡ 0) ⊎ ((e : DeedOf M) × Among e (logs s) × (e.stamp ≡ clock))

  after-clock : (s clock : ℕ) (d : DeedOf M) → Among d (logs s) → IsClock s clock → d.stamp ≡ suc clock → IsSuccessor d
  after-clock s clock d m is q = elim is [
    | inl e ↦ inl (omega arith)
    | inr r ↦ (let own : r.0.stream ≡ s = log-is-own M parts objects logs histories ends finals gathered s r.0 r.1 in
        inr (r.0, subst (λ t. Among r.0 (logs t)) (sym own) r.1, inl (own ∙ sym (log-is-own M parts objects logs histories ends finals gathered s d m)), let k : r.0.stamp ≡ clock = r.2 in omega arith))
  ]

  timed-successor : (s clock : ℕ) (d : DeedOf M) (heard : Option (Heard M.Place M.Act M.Answer)) → d.heard ≡ heard → Among d (logs s) → IsClock s clock → IsTimed histories clock d heard → IsSuccessor d
  timed-successor s clock d None q m is timed = after-clock s clock d m is timed
  timed-successor s clock d (Some h) q m is timed =
      let rule : d.stamp ≡ suc (max clock (last_stamp (entry_stamps timed.0))) = timed.3 in
      elim (cases_lt clock (last_stamp (entry_stamps timed.0))) [
        | inl l ↦ elim (last-among (λ (e : EntryOf M). e.stamp) 0 timed.0) [
          | inl z ↦ absurd (omega arith)
          | inr r ↦ (let there : Contains (histories h.0) r.0 = subst (λ es. Contains es r.0) (sym timed.2) (Contains-append_left timed.0 _ r.0 (from-among timed.0 r.0 r.1)) in
              let f = gathered.matched.has_deed h.0 r.0 there in
              let t : f.0.stamp ≡ r.0.stamp = f.2.0 in
              let k : r.0.stamp ≡ last_stamp (entry_stamps timed.0) = r.2 in
              inr (f.0, to-among (logs f.0.stream) f.0 (subst (λ n. Contains (logs n) f.0) (sym f.2.1) f.1), inr (h.0, ap (option_map (λ (g : Heard M.Place M.Act M.Answer). g.0)) f.2.2, ap (option_map (λ (g : Heard M.Place M.Act M.Answer). g.0)) q), omega arith))
        ]
        | inr g ↦ after-clock s clock d m is (omega arith)
      ]

  all-successors : (s clock : ℕ) (ds : List (DeedOf M)) → ((e : DeedOf M) → Among e ds → Among e (logs s)) → IsClock s clock → AllTimed histories clock ds → (d : DeedOf M) → Among d ds → IsSuccessor d
  all-successors s clock [] within is timed d m = absurd m
  all-successors s clock (e ∷ es) within is timed d m = elim m [
    | inl q ↦ subst IsSuccessor (sym q) (timed-successor s clock e e.heard refl (within e (inl refl)) is timed.0)
    | inr k ↦ all-successors s e.stamp es (λ f n. within f (inr n)) (inr (e, within e (inl refl), refl)) timed.1 d k
  ]

  module _ (timed : (s : ℕ) → AllTimed histories 0 (logs s)) where
    successor : (s : ℕ) (d : DeedOf M) → Among d (logs s) → IsSuccessor d
    successor s d m = all-successors s 0 (logs s) (λ e k. k) (inl refl) (timed s) d m

    pub no-gap : LeavesNoGap logs
    no-gap s d m = elim (successor s d (to-among (logs s) d m)) [ inl e ↦ inl e | inr r ↦ inr (r.0, from-among (logs r.0.stream) r.0 r.1, r.3) ]

    -- what this deed is one more than stands before it
    least : (earlier : List (DeedOf M)) (d : DeedOf M) (ds : List (DeedOf M)) → Among d J → ((e : DeedOf M) → Among e J → Contains earlier e ⊎ Among e (d ∷ ds)) → BeforeAll IsBefore d ds → IsLeast earlier d
    least earlier d ds m split order = elim (successor d.stream d (only-logged M parts objects logs histories ends finals gathered J sorted d m)) [
      | inl e ↦ inl e
      | inr r ↦ (let q : d.stamp ≡ r.0.stamp + 1 = r.3 in elim (split r.0 (to-among J r.0 (sorted.all r.0.stream r.0 (from-among (logs r.0.stream) r.0 r.1)))) [
        | inl k ↦ inr (r.0, k, r.2, r.3)
        | inr k ↦ elim k [
          | inl i ↦ (let p : r.0.stamp ≡ d.stamp = ap (λ (z : DeedOf M). z.stamp) i in absurd (omega arith))
          | inr n ↦ (let p : d.stamp ≤ r.0.stamp = not-later d r.0 (before-among IsBefore before-one-way d r.0 ds order n) in absurd (omega arith))
        ]
      ])
    ]

    lamport-from : (earlier ds : List (DeedOf M)) → InOrder IsBefore ds → ((e : DeedOf M) → Among e ds → Among e J) → ((e : DeedOf M) → Among e J → Contains earlier e ⊎ Among e ds) →
        ((e : DeedOf M) → Contains earlier e → Among e J × BeforeAll IsBefore e ds) → LamportFrom earlier ds
    lamport-from earlier [] order within split before = tt
    lamport-from earlier (d ∷ ds) order within split before = (
      (λ e k shares. let b : Among e J × BeforeAll IsBefore e (d ∷ ds) = before e k in shared-rises e d b.0 (within d (inl refl)) b.1.0 shares),
      least earlier d ds (within d (inl refl)) split order.0,
      lamport-from (earlier ++ d ∷ []) ds order.1 (λ e m. within e (inr m))
          (λ e m. elim (split e m) [
            | inl k ↦ inl (Contains-append_left earlier (d ∷ []) e k)
            | inr k ↦ elim k [ inl i ↦ inl (subst (Contains (earlier ++ d ∷ [])) (sym i) (Contains-push earlier d)) | inr n ↦ inr n ]
          ])
          (λ e k. elim (Contains-push_cases earlier d e k) [
            | inl j ↦ (let b : Among e J × BeforeAll IsBefore e (d ∷ ds) = before e j in (b.0, b.1.1))
            | inr i ↦ subst (λ z. Among z J × BeforeAll IsBefore z ds) i (within d (inl refl), order.0)
          ]),
    )

    lamport : AreLamports J
    lamport = (stamped no-gap, lamport-from [] J sorted.in_order (λ e m. m) (λ e m. inr m) (λ e k. absurd (to-among [] e k)))

module _ (M : Machine) where
  pub stamps-close : StampsClose M
  stamps-close parts objects logs histories ends finals J gathered rule sorted = stamped M parts objects logs histories ends finals gathered J sorted rule

  pub stamps-are-lamports : StampsAreLamports M
  stamps-are-lamports parts objects logs histories ends finals J gathered timed sorted = lamport M parts objects logs histories ends finals gathered J sorted timed
