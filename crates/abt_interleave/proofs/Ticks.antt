-- The stamps of logs that grow.
use Rattle.std.proofs.Common.{◌≡◌, ℕ, suc, max, ◌+◌, ◌⊎◌, inl, inr, List, [], ◌∷◌, ◌++◌, Option, Some, None, sym, ◌∙◌, ap, subst, arith}
use Rattle.std.specs.Prelude.{Contains}
use Rattle.std.proofs.lemmas.Bool.{cases_eq, cases_lt}
use Rattle.std.proofs.lemmas.List.{append_assoc, append-nil}
use Rattle.std.proofs.lemmas.List.Elements.{Contains-append_left, Contains-push_cases}
use Rattle.abt_interleave.specs.Histories.{last_from, last_stamp, entry_stamps}
use Rattle.abt_interleave.specs.Deeds.{Heard, deed_stamps}
use Rattle.abt_interleave.specs.Machines.{Machine, DeedOf, EntryOf, TellsPlaces, Gathered}
use Rattle.abt_interleave.specs.Stamps.{LeavesNoGap, IsTimed, AllTimed}
use Rattle.abt_interleave.specs.Laws.{HistoryGrows, IsLate}
use Rattle.abt_interleave.specs.Ticking.{IsNext, IsClock, LastsAreClocks, NextIsLate, TimedGrows, NoGapGrows, NextFollowsClock, TimedLeavesNoGap}
use Rattle.abt_interleave.proofs.Members.{to-among, from-among}
use Rattle.abt_interleave.proofs.Clocks.{last-among}
use Rattle.abt_interleave.proofs.Merged.{log-is-own}
use Rattle.abt_interleave.proofs.Parts.{cases-place}
use Rattle.abt_interleave.proofs.Lows.{merged, own-log, rising-log}
use Rattle.abt_interleave.proofs.Sorts.{merge-sorts}
use Rattle.abt_interleave.proofs.Stamping.{no-gap}

module _ (M : Machine) where
  -- Histories that only grow keep the stamps of logs.

  abbrev pub Continues : (M.Place → List (EntryOf M)) → (M.Place → List (EntryOf M)) → Type 0
  Continues histories longer = (x : M.Place) → (rest : List (EntryOf M)) × (longer x ≡ histories x ++ rest)

  timed-kept : (histories longer : M.Place → List (EntryOf M)) → Continues histories longer → (clock : ℕ) (d : DeedOf M) (heard : Option (Heard M.Place M.Act M.Answer)) → IsTimed histories clock d heard → IsTimed longer clock d heard
  timed-kept histories longer more clock d None t = t
  timed-kept histories longer more clock d (Some h) t =
      let entry : EntryOf M = record { stamp = d.stamp; caller = d.stream; act = h.1; answer = h.2 } in
      (t.0, t.1 ++ (more h.0).0, (more h.0).1 ∙ (ap (λ (es : List (EntryOf M)). es ++ (more h.0).0) t.2 ∙ append_assoc t.0 (entry ∷ t.1) (more h.0).0), t.3)

  pub all-timed-kept : (histories longer : M.Place → List (EntryOf M)) → Continues histories longer → (clock : ℕ) (ds : List (DeedOf M)) → AllTimed histories clock ds → AllTimed longer clock ds
  all-timed-kept histories longer more clock [] t = tt
  all-timed-kept histories longer more clock (d ∷ ds) t = (timed-kept histories longer more clock d d.heard t.0, all-timed-kept histories longer more d.stamp ds t.1)

  pub all-timed-join : (histories : M.Place → List (EntryOf M)) (clock : ℕ) (ds es : List (DeedOf M)) → AllTimed histories clock ds → AllTimed histories (last_from clock (deed_stamps ds)) es → AllTimed histories clock (ds ++ es)
  all-timed-join histories clock [] es t u = u
  all-timed-join histories clock (d ∷ ds) es t u = (t.0, all-timed-join histories d.stamp ds es t.1 u)

  grown-continues : TellsPlaces M → (histories longer : M.Place → List (EntryOf M)) (d : DeedOf M) (heard : Option (Heard M.Place M.Act M.Answer)) → HistoryGrows M histories d heard longer → Continues histories longer
  grown-continues tells histories longer d None same x = ([], same x ∙ sym (append-nil (histories x)))
  grown-continues tells histories longer d (Some h) grown x = elim (cases-place M tells h.0 x) [
    | inl q ↦ (record { stamp = d.stamp; caller = d.stream; act = h.1; answer = h.2 } ∷ [], subst (λ y. longer y ≡ histories y ++ record { stamp = d.stamp; caller = d.stream; act = h.1; answer = h.2 } ∷ []) q grown.0)
    | inr ne ↦ ([], grown.1 x ne ∙ sym (append-nil (histories x)))
  ]

  next-timed : (logs : ℕ → List (DeedOf M)) (histories longer : M.Place → List (EntryOf M)) (d : DeedOf M) (heard : Option (Heard M.Place M.Act M.Answer)) → HistoryGrows M histories d heard longer → IsNext M logs histories d heard →
      IsTimed longer (last_stamp (deed_stamps (logs d.stream))) d heard
  next-timed logs histories longer d None grown next = next
  next-timed logs histories longer d (Some h) grown next = (histories h.0, [], grown.0, next)

  pub timed-grows : TimedGrows M
  timed-grows tells logs more histories longer d timed log grown next s =
      let on : Continues histories longer = grown-continues tells histories longer d d.heard grown in
      elim (cases_eq d.stream s) [
        | inl e ↦ subst (λ t. AllTimed longer 0 (more t)) e (subst (AllTimed longer 0) (sym log.0)
            (all-timed-join longer 0 (logs d.stream) (d ∷ []) (all-timed-kept histories longer on 0 (logs d.stream) (timed d.stream)) (next-timed logs histories longer d d.heard grown next, tt)))
        | inr ne ↦ subst (AllTimed longer 0) (sym (log.1 s ne)) (all-timed-kept histories longer on 0 (logs s) (timed s))
      ]

  next-late : (logs : ℕ → List (DeedOf M)) (histories : M.Place → List (EntryOf M)) (d : DeedOf M) (heard : Option (Heard M.Place M.Act M.Answer)) → IsNext M logs histories d heard → IsLate M logs histories d heard
  next-late logs histories d None q = let k : d.stamp ≡ suc (last_stamp (deed_stamps (logs d.stream))) = q in omega arith
  next-late logs histories d (Some h) q = let k : d.stamp ≡ suc (max (last_stamp (deed_stamps (logs d.stream))) (last_stamp (entry_stamps (histories h.0)))) = q in (omega arith, omega arith)

  pub next-is-late : NextIsLate M
  next-is-late logs histories d next = next-late logs histories d d.heard next

  -- No gap.

  pub clock-kept : (logs more : ℕ → List (DeedOf M)) → ((s : ℕ) (e : DeedOf M) → Contains (logs s) e → Contains (more s) e) → (clock : ℕ) → IsClock M logs clock → IsClock M more clock
  clock-kept logs more kept clock is = elim is [ inl z ↦ inl z | inr r ↦ inr (r.0, kept r.0.stream r.0 r.1, r.2) ]

  -- one more than a clock is no gap
  pub after-a-clock : (logs : ℕ → List (DeedOf M)) (clock : ℕ) (d : DeedOf M) → IsClock M logs clock → d.stamp ≡ suc clock → (d.stamp ≡ 1) ⊎ ((e : DeedOf M) × Contains (logs e.stream) e × (d.stamp ≡ e.stamp + 1))
  after-a-clock logs clock d is q = elim is [ inl z ↦ inl (omega arith) | inr r ↦ inr (r.0, r.1, let k : r.0.stamp ≡ clock = r.2 in omega arith) ]

  pub no-gap-grows : NoGapGrows M
  no-gap-grows logs more d clock rule log is q s f m = elim (which s f m) [
    | inl old ↦ elim (rule s f old) [ inl e ↦ inl e | inr r ↦ inr (r.0, kept r.0.stream r.0 r.1, r.2) ]
    | inr new ↦ after-a-clock more clock f (clock-kept logs more kept clock is) (sym (ap (λ (z : DeedOf M). z.stamp) new) ∙ q)
  ] where
    kept : (r : ℕ) (e : DeedOf M) → Contains (logs r) e → Contains (more r) e
    kept r e k = elim (cases_eq d.stream r) [
      | inl i ↦ subst (λ t. Contains (more t) e) i (subst (λ ds. Contains ds e) (sym log.0) (Contains-append_left (logs d.stream) (d ∷ []) e (subst (λ t. Contains (logs t) e) (sym i) k)))
      | inr ne ↦ subst (λ ds. Contains ds e) (sym (log.1 r ne)) k
    ]

    which : (r : ℕ) (e : DeedOf M) → Contains (more r) e → Contains (logs r) e ⊎ (d ≡ e)
    which r e k = elim (cases_eq d.stream r) [
      | inl i ↦ elim (Contains-push_cases (logs d.stream) d e (subst (λ ds. Contains ds e) log.0 (subst (λ t. Contains (more t) e) (sym i) k))) [ inl o ↦ inl (subst (λ t. Contains (logs t) e) i o) | inr n ↦ inr n ]
      | inr ne ↦ inl (subst (λ ds. Contains ds e) (log.1 r ne) k)
    ]

  module _ (parts : ℕ → M.Part) (objects : M.Place → M.Object) (logs : ℕ → List (DeedOf M)) (histories : M.Place → List (EntryOf M)) (ends : ℕ → M.Part) (finals : M.Place → M.Object)
      (gathered : Gathered M parts objects logs histories ends finals) where
    stream-clock : (s : ℕ) → IsClock M logs (last_stamp (deed_stamps (logs s)))
    stream-clock s = elim (last-among (λ (d : DeedOf M). d.stamp) 0 (logs s)) [
      | inl e ↦ inl e
      | inr r ↦ inr (r.0, subst (λ t. Contains (logs t) r.0) (sym (log-is-own M parts objects logs histories ends finals gathered s r.0 r.1)) (from-among (logs s) r.0 r.1), r.2)
    ]

    object-clock : (x : M.Place) → IsClock M logs (last_stamp (entry_stamps (histories x)))
    object-clock x = elim (last-among (λ (e : EntryOf M). e.stamp) 0 (histories x)) [
      | inl e ↦ inl e
      | inr r ↦ (let f = gathered.matched.has_deed x r.0 (from-among (histories x) r.0 r.1) in inr (f.0, subst (λ t. Contains (logs t) f.0) (sym f.2.1) f.1, f.2.0 ∙ r.2))
    ]

    next-clock : (d : DeedOf M) (heard : Option (Heard M.Place M.Act M.Answer)) → IsNext M logs histories d heard → (clock : ℕ) × IsClock M logs clock × (d.stamp ≡ suc clock)
    next-clock d None q = (last_stamp (deed_stamps (logs d.stream)), stream-clock d.stream, q)
    next-clock d (Some h) q =
        let k : d.stamp ≡ suc (max (last_stamp (deed_stamps (logs d.stream))) (last_stamp (entry_stamps (histories h.0)))) = q in
        elim (cases_lt (last_stamp (deed_stamps (logs d.stream))) (last_stamp (entry_stamps (histories h.0)))) [
          | inl l ↦ (last_stamp (entry_stamps (histories h.0)), object-clock h.0, omega arith)
          | inr g ↦ (last_stamp (deed_stamps (logs d.stream)), stream-clock d.stream, omega arith)
        ]

    timed-no-gap : ((s : ℕ) → AllTimed histories 0 (logs s)) → LeavesNoGap logs
    timed-no-gap timed =
        let J = merged M parts objects logs histories ends finals gathered in
        no-gap M parts objects logs histories ends finals gathered J.0 (merge-sorts M logs (rising-log M parts objects logs histories ends finals gathered) (λ s d m. own-log M parts objects logs histories ends finals gathered s d (to-among (logs s) d m)) J.0 J.1) timed

  pub lasts-are-clocks : LastsAreClocks M
  lasts-are-clocks parts objects logs histories ends finals gathered = (stream-clock parts objects logs histories ends finals gathered, object-clock parts objects logs histories ends finals gathered)

  pub next-follows-clock : NextFollowsClock M
  next-follows-clock parts objects logs histories ends finals d gathered next = next-clock parts objects logs histories ends finals gathered d d.heard next

  pub timed-leaves-no-gap : TimedLeavesNoGap M
  timed-leaves-no-gap parts objects logs histories ends finals gathered timed = timed-no-gap parts objects logs histories ends finals gathered timed
