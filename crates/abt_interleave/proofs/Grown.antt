-- One turn more, and one wave more.
use Rattle.std.proofs.Common.{◌≡◌, ℕ, ◌<◌, ◌≤◌, List, [], ◌∷◌, ◌++◌, map, Option, Some, None, refl, sym, ◌∙◌, ap, subst, arith, ◌⊎◌, inl, inr}
use Rattle.std.specs.Prelude.{Contains}
use Rattle.std.proofs.lemmas.Bool.{cases_eq}
use Rattle.std.proofs.lemmas.List.Elements.{Contains-append_left, Contains-append_right, Contains-append_cases, Contains-push, Contains-push_cases}
use Rattle.abt_interleave.specs.Histories.{RisesAbove, last_from, last_stamp, Leads, Legal}
use Rattle.abt_interleave.specs.Deeds.{Heard, deed_stamps, Does, Course, Answered}
use Rattle.abt_interleave.specs.Logs.{Matched}
use Rattle.abt_interleave.specs.Machines.{Machine, DeedOf, EntryOf, TellsPlaces}
use Rattle.abt_interleave.specs.Laws.{CourseGrows, LegalGrows, LogGrows, HistoryGrows, MatchedGrows, IsLate, GatheredGrows, CoursesJoin, HistoriesJoin, MatchedJoin, GatheredJoin}
use Rattle.abt_interleave.proofs.Parts.{cases-place}

-- stamps behind stamps
rises-join : {A : Type 0} (stamp : A → ℕ) (n : ℕ) (xs ys : List A) → RisesAbove n (map stamp xs) → RisesAbove (last_from n (map stamp xs)) (map stamp ys) → RisesAbove n (map stamp (xs ++ ys))
rises-join stamp n [] ys r l = l
rises-join stamp n (x ∷ xs) ys r l = (r.0, rises-join stamp (stamp x) xs ys r.1 l)

module _ (M : Machine) where
  pub does-join : (s : ℕ) (p q r : M.Part) (ds es : List (DeedOf M)) → Does M.Steps s p ds q → Does M.Steps s q es r → Does M.Steps s p (ds ++ es) r
  does-join s p q r [] es c d = subst (λ m. Does M.Steps s m es r) (sym c) d
  does-join s p q r (f ∷ fs) es c d = (c.0, c.1, c.2, does-join s c.1 q r fs es c.3 d)

  leads-join : (o p q : M.Object) (ds es : List (EntryOf M)) → Leads M.Gives o ds p → Leads M.Gives p es q → Leads M.Gives o (ds ++ es) q
  leads-join o p q [] es l k = subst (λ m. Leads M.Gives m es q) (sym l) k
  leads-join o p q (f ∷ fs) es l k = (l.0, l.1, leads-join l.0 p q fs es l.2 k)

  -- One wave more.

  pub courses-join : CoursesJoin M
  courses-join s p q r log more c d rises = (rises-join (λ (e : DeedOf M). e.stamp) 0 log more c.0 rises, does-join s p q r log more c.1 d.1)

  pub histories-join : HistoriesJoin M
  histories-join o p q history more l k rises = (rises-join (λ (e : EntryOf M). e.stamp) 0 history more l.0 rises, leads-join o p q history more l.1 k.1)

  pub matched-join : MatchedJoin M
  matched-join logs more histories longer old new = record {
    has_entry = λ d x e m l. elim (Contains-append_cases (logs d.stream) (more d.stream) d m) [
      | inl k ↦ Contains-append_left (histories x) (longer x) e (old.has_entry d x e k l)
      | inr k ↦ Contains-append_right (histories x) (longer x) e (new.has_entry d x e k l)
    ];
    has_deed = λ x e m. elim (Contains-append_cases (histories x) (longer x) e m) [
      | inl k ↦ (let r = old.has_deed x e k in (r.0, Contains-append_left (logs e.caller) (more e.caller) r.0 r.1, r.2))
      | inr k ↦ (let r = new.has_deed x e k in (r.0, Contains-append_right (logs e.caller) (more e.caller) r.0 r.1, r.2))
    ];
  }

  -- One turn more.

  pub course-grows : CourseGrows M
  course-grows s p q r log d c own later step = (rises-join (λ (e : DeedOf M). e.stamp) 0 log (d ∷ []) c.0 (later, tt), does-join s p q r log (d ∷ []) c.1 (own, r, step, refl))

  pub legal-grows : LegalGrows M
  legal-grows o p q history e l later gives = (rises-join (λ (f : EntryOf M). f.stamp) 0 history (e ∷ []) l.0 (later, tt), leads-join o p q history (e ∷ []) l.1 (q, gives, refl))

  module _ (tells : TellsPlaces M) (logs more : ℕ → List (DeedOf M)) (histories longer : M.Place → List (EntryOf M)) (d : DeedOf M) (old : Matched logs histories) (log : LogGrows M logs d more) where
    kept-deed : (s : ℕ) (f : DeedOf M) → Contains (logs s) f → Contains (more s) f
    kept-deed s f m = elim (cases_eq d.stream s) [
      | inl e ↦ subst (λ r. Contains (more r) f) e (subst (λ ds. Contains ds f) (sym log.0) (Contains-append_left (logs d.stream) (d ∷ []) f (subst (λ r. Contains (logs r) f) (sym e) m)))
      | inr ne ↦ subst (λ ds. Contains ds f) (sym (log.1 s ne)) m
    ]

    which-deed : (s : ℕ) (f : DeedOf M) → Contains (more s) f → Contains (logs s) f ⊎ (d ≡ f)
    which-deed s f m = elim (cases_eq d.stream s) [
      | inl e ↦ elim (Contains-push_cases (logs d.stream) d f (subst (λ ds. Contains ds f) log.0 (subst (λ r. Contains (more r) f) (sym e) m))) [ inl k ↦ inl (subst (λ r. Contains (logs r) f) e k) | inr q ↦ inr q ]
      | inr ne ↦ inl (subst (λ ds. Contains ds f) (log.1 s ne) m)
    ]

    -- the deed is in its log
    new-deed : Contains (more d.stream) d
    new-deed = subst (λ ds. Contains ds d) (sym log.0) (Contains-push (logs d.stream) d)

    pub record HistoryKeeps (heard : Option (Heard M.Place M.Act M.Answer)) : Type 0 where
      pub kept : (x : M.Place) (e : EntryOf M) → Contains (histories x) e → Contains (longer x) e
      pub new : (x : M.Place) (e : EntryOf M) → d.stamp ≡ e.stamp → d.stream ≡ e.caller → heard ≡ Some (x, e.act, e.answer) → Contains (longer x) e
      pub which : (x : M.Place) (e : EntryOf M) → Contains (longer x) e → Contains (histories x) e ⊎ ((d.stamp ≡ e.stamp) × (d.stream ≡ e.caller) × (heard ≡ Some (x, e.act, e.answer)))

    history-keeps : (heard : Option (Heard M.Place M.Act M.Answer)) → HistoryGrows M histories d heard longer → HistoryKeeps heard
    history-keeps None same = record {
      kept = λ x e m. subst (λ es. Contains es e) (sym (same x)) m;
      new = λ x e t s q. absurd (none q);
      which = λ x e m. inl (subst (λ es. Contains es e) (same x) m);
    } where
      none : {A : Type 0} {a : A} → None ≡ Some a → ⊥
      none e = cc
    history-keeps (Some h) grown = record {
      kept = λ x e m. elim (cases-place M tells h.0 x) [
        | inl q ↦ subst (λ y. Contains (longer y) e) q (subst (λ es. Contains es e) (sym grown.0) (Contains-append_left (histories h.0) (entry ∷ []) e (subst (λ y. Contains (histories y) e) (sym q) m)))
        | inr ne ↦ subst (λ es. Contains es e) (sym (grown.1 x ne)) m
      ];
      new = λ x e t s q. subst (λ y. Contains (longer y) e) (ap (place-in h) q)
          (subst (λ es. Contains es e) (sym grown.0) (subst (Contains (histories h.0 ++ entry ∷ [])) (entry-is e t s (ap (act-in h) q) (ap (answer-in h) q)) (Contains-push (histories h.0) entry)));
      which = λ x e m. elim (cases-place M tells h.0 x) [
        | inl q ↦ elim (Contains-push_cases (histories h.0) entry e (subst (λ es. Contains es e) grown.0 (subst (λ y. Contains (longer y) e) (sym q) m))) [
          | inl k ↦ inl (subst (λ y. Contains (histories y) e) q k)
          | inr i ↦ inr (ap (λ (z : EntryOf M). z.stamp) i, ap (λ (z : EntryOf M). z.caller) i, λ j. Some (q j, (i j).act, (i j).answer))
        ]
        | inr ne ↦ inl (subst (λ es. Contains es e) (grown.1 x ne) m)
      ];
    } where
      entry : EntryOf M
      entry = record { stamp = d.stamp; caller = d.stream; act = h.1; answer = h.2 }

      entry-is : (e : EntryOf M) → d.stamp ≡ e.stamp → d.stream ≡ e.caller → h.1 ≡ e.act → h.2 ≡ e.answer → entry ≡ e
      entry-is e t s a b = λ i. record { stamp = t i; caller = s i; act = a i; answer = b i }

      place-in : Heard M.Place M.Act M.Answer → Option (Heard M.Place M.Act M.Answer) → M.Place
      place-in k None = k.0
      place-in k (Some g) = g.0

      act-in : Heard M.Place M.Act M.Answer → Option (Heard M.Place M.Act M.Answer) → M.Act
      act-in k None = k.1
      act-in k (Some g) = g.1

      answer-in : Heard M.Place M.Act M.Answer → Option (Heard M.Place M.Act M.Answer) → M.Answer
      answer-in k None = k.2
      answer-in k (Some g) = g.2

    pub grown-matched : HistoryGrows M histories d d.heard longer → Matched more longer
    grown-matched grown =
        let keeps : HistoryKeeps d.heard = history-keeps d.heard grown in
        record {
          has_entry = λ f x e m l. elim (which-deed f.stream f m) [
            | inl k ↦ keeps.kept x e (old.has_entry f x e k l)
            | inr q ↦ keeps.new x e (ap (λ (z : DeedOf M). z.stamp) q ∙ l.0) (ap (λ (z : DeedOf M). z.stream) q ∙ l.1) (ap (λ (z : DeedOf M). z.heard) q ∙ l.2)
          ];
          has_deed = λ x e m. elim (keeps.which x e m) [
            | inl k ↦ (let r = old.has_deed x e k in (r.0, kept-deed e.caller r.0 r.1, r.2))
            | inr l ↦ (d, subst (λ s. Contains (more s) d) l.1 new-deed, l)
          ];
        }

  pub matched-grows : MatchedGrows M
  matched-grows tells logs more histories longer d old log grown = grown-matched tells logs more histories longer d old log grown

  -- A turn, and a wave, of all logs and histories.

  grown-legal : TellsPlaces M → (objects finals results : M.Place → M.Object) (histories longer : M.Place → List (EntryOf M)) (logs : ℕ → List (DeedOf M)) (d : DeedOf M) (heard : Option (Heard M.Place M.Act M.Answer)) →
      ((x : M.Place) → Legal M.Gives (objects x) (histories x) (finals x)) → IsLate M logs histories d heard → Answered M.Gives finals heard results → HistoryGrows M histories d heard longer →
      (x : M.Place) → Legal M.Gives (objects x) (longer x) (results x)
  grown-legal tells objects finals results histories longer logs d None legal late same stay x = subst (λ es. Legal M.Gives (objects x) es (results x)) (sym (stay x)) (subst (Legal M.Gives (objects x) (histories x)) (sym (same x)) (legal x))
  grown-legal tells objects finals results histories longer logs d (Some h) legal late answered grown x = elim (cases-place M tells h.0 x) [
    | inl q ↦ subst (λ y. Legal M.Gives (objects y) (longer y) (results y)) q
        (subst (λ es. Legal M.Gives (objects h.0) es (results h.0)) (sym grown.0)
        (legal-grows (objects h.0) (finals h.0) (results h.0) (histories h.0) (record { stamp = d.stamp; caller = d.stream; act = h.1; answer = h.2 }) (legal h.0) late.1 answered.0))
    | inr ne ↦ subst (λ es. Legal M.Gives (objects x) es (results x)) (sym (grown.1 x ne)) (subst (Legal M.Gives (objects x) (histories x)) (sym (answered.1 x ne)) (legal x))
  ]

  late-stream : (logs : ℕ → List (DeedOf M)) (histories : M.Place → List (EntryOf M)) (d : DeedOf M) (heard : Option (Heard M.Place M.Act M.Answer)) → IsLate M logs histories d heard → last_stamp (deed_stamps (logs d.stream)) < d.stamp
  late-stream logs histories d None late = late
  late-stream logs histories d (Some h) late = late.0

  pub gathered-grows : GatheredGrows M
  gathered-grows tells parts ends news objects finals results logs more histories longer d old declared late step stay answered log grown = record {
    courses = λ s lt. elim (cases_eq d.stream s) [
      | inl e ↦ subst (λ r. Course M.Steps r (parts r) (more r) (news r)) e
          (subst (λ ds. Course M.Steps d.stream (parts d.stream) ds (news d.stream)) (sym log.0)
          (course-grows d.stream (parts d.stream) (ends d.stream) (news d.stream) (logs d.stream) d (old.courses d.stream declared) refl (late-stream logs histories d d.heard late) step))
      | inr ne ↦ subst (λ ds. Course M.Steps s (parts s) ds (news s)) (sym (log.1 s ne)) (subst (Course M.Steps s (parts s) (logs s)) (sym (stay s ne)) (old.courses s lt))
    ];
    undeclared = λ s ge. log.1 s (λ e. absurd (apart s ge e)) ∙ old.undeclared s ge;
    legal = grown-legal tells objects finals results histories longer logs d d.heard old.legal late answered grown;
    matched = matched-grows tells logs more histories longer d old.matched log grown;
  } where
    apart : (s : ℕ) → M.streams ≤ s → d.stream ≡ s → ⊥
    apart s ge e = omega arith

  pub gathered-join : GatheredJoin M
  gathered-join parts ends news objects finals results logs more histories longer old new rises climbs = record {
    courses = λ s lt. courses-join s (parts s) (ends s) (news s) (logs s) (more s) (old.courses s lt) (new.courses s lt) (rises s);
    undeclared = λ s ge. λ i. old.undeclared s ge i ++ new.undeclared s ge i;
    legal = λ x. histories-join (objects x) (finals x) (results x) (histories x) (longer x) (old.legal x) (new.legal x) (climbs x);
    matched = matched-join logs more histories longer old.matched new.matched;
  }
