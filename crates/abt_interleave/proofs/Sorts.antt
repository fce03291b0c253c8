-- The sorted list of deeds, and of what they are seen as, is the one list of the logs.
use Rattle.std.proofs.Common.{◌≡◌, ℕ, ◌<◌, List, [], ◌∷◌, map, refl, sym, ◌∙◌, ap, subst, inl, inr}
use Rattle.std.specs.Prelude.{Contains}
use Rattle.abt_interleave.specs.Histories.{RisesAbove}
use Rattle.abt_interleave.specs.Deeds.{deed_stamps}
use Rattle.abt_interleave.specs.Logs.{IsSooner, IsBefore, BeforeAll, InOrder, IsSorted, IsSortedAs}
use Rattle.abt_interleave.specs.Machines.{Machine, DeedOf}
use Rattle.abt_interleave.specs.Merges.{IsLogOf, IsMergeOf}
use Rattle.abt_interleave.specs.MergeLaws.{SortedIsMerge, SortedAsIsMerge, EventsSort}
use Rattle.abt_interleave.proofs.Members.{Among, to-among, from-among, all-from-among}
use Rattle.abt_interleave.proofs.OneList.{above-rises, in-merge, in-log, members-make}

-- the sorted list of the deeds is, seen so, the sorted list of what they are seen as
module _ (M : Machine) (Event : Type 0) (event : DeedOf M → Event) (stamp stream : Event → ℕ) (keys : (d : DeedOf M) → (stamp (event d) ≡ d.stamp) × (stream (event d) ≡ d.stream)) where
  abbrev EventsBefore : Event → Event → Type 0
  EventsBefore e f = IsSooner (stamp e) (stream e) (stamp f) (stream f)

  before-seen : (d e : DeedOf M) → IsBefore d e → EventsBefore (event d) (event e)
  before-seen d e h = subst (λ n. IsSooner (stamp (event d)) (stream (event d)) n (stream (event e))) (sym (keys e).0) (subst (λ n. IsSooner (stamp (event d)) (stream (event d)) e.stamp n) (sym (keys e).1)
      (subst (λ n. IsSooner n (stream (event d)) e.stamp e.stream) (sym (keys d).0) (subst (λ n. IsSooner d.stamp n e.stamp e.stream) (sym (keys d).1) h)))

  before-all-seen : (d : DeedOf M) (ds : List (DeedOf M)) → BeforeAll IsBefore d ds → BeforeAll EventsBefore (event d) (map event ds)
  before-all-seen d [] h = tt
  before-all-seen d (f ∷ fs) h = (before-seen d f h.0, before-all-seen d fs h.1)

  in-order-seen : (ds : List (DeedOf M)) → InOrder IsBefore ds → InOrder EventsBefore (map event ds)
  in-order-seen [] h = tt
  in-order-seen (d ∷ ds) h = (before-all-seen d ds h.0, in-order-seen ds h.1)

  deed-seen : (d : DeedOf M) (ds : List (DeedOf M)) → Among d ds → Among (event d) (map event ds)
  deed-seen d [] m = absurd m
  deed-seen d (f ∷ fs) m = elim m [ inl q ↦ inl (ap event q) | inr n ↦ inr (deed-seen d fs n) ]

  seen-deed : (e : Event) (ds : List (DeedOf M)) → Among e (map event ds) → (d : DeedOf M) × Among d ds × (event d ≡ e)
  seen-deed e [] m = absurd m
  seen-deed e (d ∷ ds) m = elim m [ inl q ↦ (d, inl refl, sym q) | inr n ↦ (let r : (f : DeedOf M) × Among f ds × (event f ≡ e) = seen-deed e ds n in (r.0, inr r.1, r.2)) ]

  pub seen-merge : (logs : ℕ → List (DeedOf M)) (ds : List (DeedOf M)) → IsSorted logs ds → IsSortedAs event stamp stream logs (map event ds)
  seen-merge logs ds sorted = record {
    in_order = in-order-seen ds sorted.in_order;
    all = λ s d m. from-among (map event ds) (event d) (deed-seen d ds (to-among ds d (sorted.all s d m)));
    only = λ e m. let r = seen-deed e ds (to-among (map event ds) e m) in (r.0, sorted.only r.0 (from-among ds r.0 r.1), r.2);
  }

module _ (M : Machine) (Event : Type 0) (event : DeedOf M → Event) (stamp stream : Event → ℕ) (keys : (d : DeedOf M) → (stamp (event d) ≡ d.stamp) × (stream (event d) ≡ d.stream)) (logs : ℕ → List (DeedOf M))
    (rises : (s : ℕ) → RisesAbove 0 (deed_stamps (logs s))) (own : (s : ℕ) (d : DeedOf M) → Contains (logs s) d → d.stream ≡ s) where
  rises-seen : (n : ℕ) (ds : List (DeedOf M)) → RisesAbove n (deed_stamps ds) → RisesAbove n (map stamp (map event ds))
  rises-seen n [] r = tt
  rises-seen n (d ∷ ds) r = (subst (λ t. n < t) (sym (keys d).0) r.0, subst (λ t. RisesAbove t (map stamp (map event ds))) (sym (keys d).0) (rises-seen d.stamp ds r.1))

  seen-own : (s : ℕ) (e : Event) → Among e (map event (logs s)) → stream e ≡ s
  seen-own s e m = let r : (d : DeedOf M) × Among d (logs s) × (event d ≡ e) = seen-deed M Event event stamp stream keys e (logs s) m in ap stream (sym r.2) ∙ ((keys r.0).1 ∙ own s r.0 (from-among (logs s) r.0 r.1))

  seen-logs : (s : ℕ) → IsLogOf stamp stream s (map event (logs s))
  seen-logs s = (above-rises 0 (map stamp (map event (logs s))) (rises-seen 0 (logs s) (rises s)), all-from-among (λ e. stream e ≡ s) (map event (logs s)) (seen-own s))

  to-merge : (J : List Event) → IsSortedAs event stamp stream logs J → IsMergeOf stamp stream (λ s. map event (logs s)) J
  to-merge J sorted = members-make stamp stream (λ s. map event (logs s)) J seen-logs sorted.in_order
      (λ s e m. let r : (d : DeedOf M) × Among d (logs s) × (event d ≡ e) = seen-deed M Event event stamp stream keys e (logs s) (to-among (map event (logs s)) e m) in subst (Contains J) r.2 (sorted.all s r.0 (from-among (logs s) r.0 r.1)))
      (λ e m. let r = sorted.only e m in
      let q : r.0.stream ≡ stream e = sym (keys r.0).1 ∙ ap stream r.2 in
      from-among (map event (logs (stream e))) e (subst (λ (x : Event). Among x (map event (logs (stream e)))) r.2 (subst (λ t. Among (event r.0) (map event (logs t))) q (deed-seen M Event event stamp stream keys r.0 (logs r.0.stream) (to-among (logs r.0.stream) r.0 r.1)))))

  from-merge : (J : List Event) → IsMergeOf stamp stream (λ s. map event (logs s)) J → IsSortedAs event stamp stream logs J
  from-merge J merged = record {
    in_order = merged.in_order;
    all = λ s d m. from-among J (event d) (in-merge stamp stream (λ t. map event (logs t)) J merged s (event d) (deed-seen M Event event stamp stream keys d (logs s) (to-among (logs s) d m))).0;
    only = λ e m. let r : (d : DeedOf M) × Among d (logs (stream e)) × (event d ≡ e) = seen-deed M Event event stamp stream keys e (logs (stream e)) (in-log stamp stream (λ t. map event (logs t)) J merged e (to-among J e m)) in
        (r.0, subst (λ t. Contains (logs t) r.0) (sym (own (stream e) r.0 (from-among (logs (stream e)) r.0 r.1))) (from-among (logs (stream e)) r.0 r.1), r.2);
  }

pub sorted-as-is-merge : (M : Machine) (Event : Type 0) → SortedAsIsMerge M Event
sorted-as-is-merge M Event event stamp stream keys logs J rises own = (to-merge M Event event stamp stream keys logs rises own J, from-merge M Event event stamp stream keys logs rises own J)

module _ (M : Machine) (logs : ℕ → List (DeedOf M)) (rises : (s : ℕ) → RisesAbove 0 (deed_stamps (logs s))) (own : (s : ℕ) (d : DeedOf M) → Contains (logs s) d → d.stream ≡ s) where
  deeds-merge : (J : List (DeedOf M)) → IsSorted logs J → IsMergeOf (λ (d : DeedOf M). d.stamp) (λ (d : DeedOf M). d.stream) logs J
  deeds-merge J sorted = members-make (λ (d : DeedOf M). d.stamp) (λ (d : DeedOf M). d.stream) logs J
      (λ s. (above-rises 0 (deed_stamps (logs s)) (rises s), all-from-among (λ (d : DeedOf M). d.stream ≡ s) (logs s) (λ d m. own s d (from-among (logs s) d m)))) sorted.in_order sorted.all sorted.only

  pub merge-sorts : (J : List (DeedOf M)) → IsMergeOf (λ (d : DeedOf M). d.stamp) (λ (d : DeedOf M). d.stream) logs J → IsSorted logs J
  merge-sorts J merged = record {
    in_order = merged.in_order;
    all = λ s d m. from-among J d (in-merge (λ (f : DeedOf M). f.stamp) (λ (f : DeedOf M). f.stream) logs J merged s d (to-among (logs s) d m)).0;
    only = λ d m. from-among (logs d.stream) d (in-log (λ (f : DeedOf M). f.stamp) (λ (f : DeedOf M). f.stream) logs J merged d (to-among J d m));
  }

pub sorted-is-merge : (M : Machine) → SortedIsMerge M
sorted-is-merge M logs J rises own = (deeds-merge M logs rises own J, merge-sorts M logs rises own J)

pub events-sort : (M : Machine) (Event : Type 0) → EventsSort M Event
events-sort M Event event stamp stream keys logs ds sorted = seen-merge M Event event stamp stream keys logs ds sorted
