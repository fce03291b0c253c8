-- A list of deeds is a run if what it is to each stream is a course, and what it is to each object a legal history.
use Rattle.std.proofs.Common.{◌≡◌, ◌≢◌, ℕ, ◌<◌, ◌==◌, if◌then◌else◌, List, [], ◌∷◌, Option, Some, None, refl, sym, subst, inl, inr}
use Rattle.std.proofs.lemmas.Bool.{cond-true, cond-false, cond_both, cases_eq, eq-eqb, ne_eqb}
use Rattle.abt_interleave.specs.Histories.{Leads}
use Rattle.abt_interleave.specs.Deeds.{Heard, Does, Answered}
use Rattle.abt_interleave.specs.Machines.{Machine, DeedOf, EntryOf, Goes, IsSimulated, TellsPlaces, IsRunTo}
use Rattle.abt_interleave.proofs.Parts.{of_stream, entry_at, of_place, same-self, not-same}

-- each deed is of a stream that there is
abbrev pub AllDeclared : (M : Machine) → List (DeedOf M) → Type 0
AllDeclared M [] = Unit {0}
AllDeclared M (d ∷ ds) = (d.stream < M.streams) × AllDeclared M ds

module _ (M : Machine) (tells : TellsPlaces M) (simulated : IsSimulated M) where
  own-course : (p : M.Part) (d : DeedOf M) (ds : List (DeedOf M)) (q : M.Part) →
      Does M.Steps d.stream p (of_stream M d.stream (d ∷ ds)) q → (d.stream ≡ d.stream) × (m : M.Part) × M.Steps d.stream p d.what d.heard m × Does M.Steps d.stream m (of_stream M d.stream ds) q
  own-course p d ds q c = subst (λ ys. Does M.Steps d.stream p ys q) (cond-true (d.stream == d.stream) (d ∷ of_stream M d.stream ds) (of_stream M d.stream ds) (eq-eqb d.stream d.stream refl)) c

  other-course : (p : M.Part) (d : DeedOf M) (ds : List (DeedOf M)) (q : M.Part) (s : ℕ) → d.stream ≢ s →
      Does M.Steps s p (of_stream M s (d ∷ ds)) q → Does M.Steps s p (of_stream M s ds) q
  other-course p d ds q s ne c = subst (λ ys. Does M.Steps s p ys q) (cond-false (d.stream == s) (d ∷ of_stream M s ds) (of_stream M s ds) (ne_eqb d.stream s ne)) c

  -- what the objects are after the first deed, from where their histories go on
  record FirstAnswer (S : M.State) (heard : Option (Heard M.Place M.Act M.Answer)) (ds : List (DeedOf M)) (finals : M.Place → M.Object) : Type 0 where
    new : M.Place → M.Object
    answered : Answered M.Gives (M.object_of S) heard new
    later : (x : M.Place) → Leads M.Gives (new x) (of_place M x ds) (finals x)

  first-answer : (S : M.State) (t s : ℕ) (heard : Option (Heard M.Place M.Act M.Answer)) (ds : List (DeedOf M)) (finals : M.Place → M.Object) →
      ((x : M.Place) → Leads M.Gives (M.object_of S x) (entry_at M x t s heard (of_place M x ds)) (finals x)) → FirstAnswer S heard ds finals
  first-answer S t s None ds finals legal = record { new = M.object_of S; answered = λ x. refl; later = legal }
  first-answer S t s (Some h) ds finals legal =
      let entry : EntryOf M = record { stamp = t; caller = s; act = h.1; answer = h.2 } in
      let own : (m : M.Object) × M.Gives (M.object_of S h.0) h.1 h.2 m × Leads M.Gives m (of_place M h.0 ds) (finals h.0) =
      subst (λ es. Leads M.Gives (M.object_of S h.0) es (finals h.0)) (cond-true (M.same h.0 h.0) (entry ∷ of_place M h.0 ds) (of_place M h.0 ds) (same-self M tells h.0)) (legal h.0) in
      record {
        new = λ x. if M.same h.0 x then own.0 else M.object_of S x;
        answered = (
          subst (M.Gives (M.object_of S h.0) h.1 h.2) (sym (cond-true (M.same h.0 h.0) own.0 (M.object_of S h.0) (same-self M tells h.0))) own.1,
          λ x ne. cond-false (M.same h.0 x) own.0 (M.object_of S x) (not-same M tells h.0 x ne),
        );
        later = λ x. cond_both (M.same h.0 x) own.0 (M.object_of S x) (λ o. Leads M.Gives o (of_place M x ds) (finals x))
            (λ e. subst (λ y. Leads M.Gives own.0 (of_place M y ds) (finals y)) ((tells h.0 x).0 e) own.2)
            (λ e. subst (λ es. Leads M.Gives (M.object_of S x) es (finals x)) (cond-false (M.same h.0 x) (entry ∷ of_place M x ds) (of_place M x ds) e) (legal x));
      }

  pub interleaved : (J : List (DeedOf M)) (S : M.State) (ends : ℕ → M.Part) (finals : M.Place → M.Object) → M.Sound S → AllDeclared M J →
      ((s : ℕ) → s < M.streams → Does M.Steps s (M.part_of S s) (of_stream M s J) (ends s)) →
      ((x : M.Place) → Leads M.Gives (M.object_of S x) (of_place M x J) (finals x)) →
      IsRunTo M S J ends finals
  interleaved [] S ends finals sound declared courses legal = record { run = tt; sound = sound; parts = courses; objects = legal }
  interleaved (d ∷ ds) S ends finals sound declared courses legal =
      let own : (d.stream ≡ d.stream) × (m : M.Part) × M.Steps d.stream (M.part_of S d.stream) d.what d.heard m × Does M.Steps d.stream m (of_stream M d.stream ds) (ends d.stream) =
      own-course (M.part_of S d.stream) d ds (ends d.stream) (courses d.stream declared.0) in
      let answer : FirstAnswer S d.heard ds finals = first-answer S d.stamp d.stream d.heard ds finals legal in
      let goes : Goes M S d.stream d.what own.1 answer.new = simulated S d.stream d.what d.heard own.1 answer.new sound declared.0 own.2 answer.answered in
      let T : M.State = M.after S d.stream d.what in
      let later : IsRunTo M T ds ends finals = interleaved ds T ends finals goes.sound declared.1
      (λ s lt. elim (cases_eq s d.stream) [
        | inl e ↦ subst (λ (r : ℕ). Does M.Steps r (M.part_of T r) (of_stream M r ds) (ends r)) (sym e) (subst (λ p. Does M.Steps d.stream p (of_stream M d.stream ds) (ends d.stream)) (sym goes.own) own.3)
        | inr ne ↦ subst (λ p. Does M.Steps s p (of_stream M s ds) (ends s)) (sym (goes.others s ne)) (other-course (M.part_of S s) d ds (ends s) s (λ e. ne (sym e)) (courses s lt))
      ])
      (λ x. subst (λ o. Leads M.Gives o (of_place M x ds) (finals x)) (sym (goes.called x)) (answer.later x)) in
      record { run = (declared.0, goes.may, later.run); sound = later.sound; parts = later.parts; objects = later.objects }
