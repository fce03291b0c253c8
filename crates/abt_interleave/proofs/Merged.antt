-- The sorted list of all deeds is to each stream its log, and to each object its history: so it is a run.
use Rattle.std.proofs.Common.{◌≡◌, ℕ, ◌<◌, List, [], ◌∷◌, refl, sym, ◌∙◌, ap, subst, inl, inr}
use Rattle.std.proofs.lemmas.Bool.{cases_lt}
use Rattle.abt_interleave.specs.Histories.{RisesAbove, Leads}
use Rattle.abt_interleave.specs.Deeds.{deed_stamps, Does}
use Rattle.abt_interleave.specs.Logs.{LeavesEntry, IsBefore, IsSorted}
use Rattle.abt_interleave.specs.Machines.{Machine, DeedOf, EntryOf, TellsPlaces, Gathered}
use Rattle.abt_interleave.specs.Laws.{LogsMerge}
use Rattle.abt_interleave.proofs.Members.{Among, to-among, from-among}
use Rattle.abt_interleave.proofs.Orders.{in-order-unique, before-one-way, entry-one-way, IsEntryBefore, stamps-in-order}
use Rattle.abt_interleave.proofs.Parts.{of_stream, of_place, in-order-of_stream, among-of_stream, to-of_stream, in-order-of_place, among-of_place, to-of_place}
use Rattle.abt_interleave.proofs.Interleaved.{AllDeclared, interleaved}

module _ (M : Machine) where
  -- each deed of a log is its stream's
  pub own-deeds : (s : ℕ) (p q : M.Part) (log : List (DeedOf M)) → Does M.Steps s p log q → (d : DeedOf M) → Among d log → d.stream ≡ s
  own-deeds s p q [] c d m = absurd m
  own-deeds s p q (e ∷ es) c d m = elim m [ inl i ↦ ap (λ (z : DeedOf M). z.stream) i ∙ c.0 | inr n ↦ own-deeds s c.1 q es c.3 d n ]

  module _ (parts : ℕ → M.Part) (objects : M.Place → M.Object) (logs : ℕ → List (DeedOf M)) (histories : M.Place → List (EntryOf M)) (ends : ℕ → M.Part) (finals : M.Place → M.Object) (gathered : Gathered M parts objects logs histories ends finals) where
    pub log-is-own : (s : ℕ) (d : DeedOf M) → Among d (logs s) → d.stream ≡ s
    log-is-own s d m = elim (cases_lt s M.streams) [
      | inl lt ↦ own-deeds s (parts s) (ends s) (logs s) (gathered.courses s lt).1 d m
      | inr ge ↦ absurd (subst (Among d) (gathered.undeclared s ge) m)
    ]

    pub log-declared : (s : ℕ) (d : DeedOf M) → Among d (logs s) → s < M.streams
    log-declared s d m = elim (cases_lt s M.streams) [ inl lt ↦ lt | inr ge ↦ absurd (subst (Among d) (gathered.undeclared s ge) m) ]

    pub log-rises : (s : ℕ) → RisesAbove 0 (deed_stamps (logs s))
    log-rises s = elim (cases_lt s M.streams) [ inl lt ↦ (gathered.courses s lt).0 | inr ge ↦ subst (λ ds. RisesAbove 0 (deed_stamps ds)) (sym (gathered.undeclared s ge)) tt ]

    module _ (J : List (DeedOf M)) (sorted : IsSorted logs J) where
      -- who stands in the list stands in the log
      pub only-logged : (d : DeedOf M) → Among d J → Among d (logs d.stream)
      only-logged d m = to-among (logs d.stream) d (sorted.only d (from-among J d m))

      pub log-is : (s : ℕ) → of_stream M s J ≡ logs s
      log-is s = in-order-unique IsBefore before-one-way (of_stream M s J) (logs s)
          (in-order-of_stream M IsBefore s J sorted.in_order)
          (stamps-in-order (λ (d : DeedOf M). d.stamp) IsBefore (λ a b l. inl l) (logs s) (log-rises s))
          (λ d m. let r : Among d J × (d.stream ≡ s) = among-of_stream M s d J m in subst (λ n. Among d (logs n)) r.1 (only-logged d r.0))
          (λ d m. to-of_stream M s d J (to-among J d (sorted.all s d (from-among (logs s) d m))) (log-is-own s d m))

      pub history-is : TellsPlaces M → (x : M.Place) → of_place M x J ≡ histories x
      history-is tells x = in-order-unique IsEntryBefore entry-one-way (of_place M x J) (histories x)
          (in-order-of_place M tells x J sorted.in_order)
          (stamps-in-order (λ (e : EntryOf M). e.stamp) IsEntryBefore (λ a b l. inl l) (histories x) (gathered.legal x).0)
          (λ e m. let r : (d : DeedOf M) × Among d J × LeavesEntry d x e = among-of_place M tells x e J m in
          to-among (histories x) e (gathered.matched.has_entry r.0 x e (sorted.only r.0 (from-among J r.0 r.1)) r.2))
          (λ e m. let r = gathered.matched.has_deed x e (from-among (histories x) e m) in
          to-of_place M tells x e r.0 J (to-among J r.0 (sorted.all e.caller r.0 r.1)) r.2)

  all-declared : (ds : List (DeedOf M)) → ((d : DeedOf M) → Among d ds → d.stream < M.streams) → AllDeclared M ds
  all-declared [] h = tt
  all-declared (d ∷ ds) h = (h d (inl refl), all-declared ds (λ e m. h e (inr m)))

  pub logs-merge : LogsMerge M
  logs-merge tells simulated S sound logs histories ends finals J gathered sorted =
      interleaved M tells simulated J S ends finals sound
      (all-declared J (λ d m. log-declared (M.part_of S) (M.object_of S) logs histories ends finals gathered d.stream d (only-logged (M.part_of S) (M.object_of S) logs histories ends finals gathered J sorted d m)))
      (λ s lt. subst (λ ds. Does M.Steps s (M.part_of S s) ds (ends s)) (sym (log-is (M.part_of S) (M.object_of S) logs histories ends finals gathered J sorted s)) (gathered.courses s lt).1)
      (λ x. subst (λ es. Leads M.Gives (M.object_of S x) es (finals x)) (sym (history-is (M.part_of S) (M.object_of S) logs histories ends finals gathered J sorted tells x)) (gathered.legal x).1)
