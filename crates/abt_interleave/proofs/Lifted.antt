-- A sorted list of events is a sorted list of deeds, seen as events.
use Rattle.std.proofs.Common.{◌≡◌, ℕ, List, [], ◌∷◌, map, refl, sym, ◌∙◌, ap, ap₂, subst, inl, inr}
use Rattle.std.specs.Prelude.{Contains}
use Rattle.abt_interleave.specs.Histories.{RisesAbove}
use Rattle.abt_interleave.specs.Deeds.{deed_stamps}
use Rattle.abt_interleave.specs.Logs.{IsSooner, IsBefore, BeforeAll, InOrder, IsSorted, IsSortedAs}
use Rattle.abt_interleave.specs.Machines.{Machine, DeedOf}
use Rattle.abt_interleave.specs.Laws.{EventsLift}
use Rattle.abt_interleave.proofs.Members.{Among, to-among, from-among}
use Rattle.abt_interleave.proofs.Orders.{rises-in-order, one-stamp}

module _ (M : Machine) (Event : Type 0) (event : DeedOf M → Event) (stamp stream : Event → ℕ) (keys : (d : DeedOf M) → (stamp (event d) ≡ d.stamp) × (stream (event d) ≡ d.stream)) (logs : ℕ → List (DeedOf M)) where
  record Lifts (J : List Event) : Type 0 where
    deeds : List (DeedOf M)
    events : map event deeds ≡ J
    logged : (d : DeedOf M) → Among d deeds → Contains (logs d.stream) d

  lifts : (J : List Event) → ((e : Event) → Among e J → (d : DeedOf M) × Contains (logs d.stream) d × (event d ≡ e)) → Lifts J
  lifts [] h = record { deeds = []; events = refl; logged = λ d m. absurd m }
  lifts (e ∷ es) h =
      let d : (d : DeedOf M) × Contains (logs d.stream) d × (event d ≡ e) = h e (inl refl) in
      let r : Lifts es = lifts es (λ f m. h f (inr m)) in
      record {
        deeds = d.0 ∷ r.deeds;
        events = ap₂ (λ (x : Event) (xs : List Event). x ∷ xs) d.2 r.events;
        logged = λ f m. elim m [ inl q ↦ subst (λ z. Contains (logs z.stream) z) (sym q) d.1 | inr n ↦ r.logged f n ];
      }

  abbrev EventsBefore : Event → Event → Type 0
  EventsBefore e f = IsSooner (stamp e) (stream e) (stamp f) (stream f)

  before-lift : (d e : DeedOf M) → EventsBefore (event d) (event e) → IsBefore d e
  before-lift d e h = subst (λ n. IsSooner d.stamp d.stream n e.stream) (keys e).0 (subst (λ n. IsSooner d.stamp d.stream (stamp (event e)) n) (keys e).1
      (subst (λ n. IsSooner n d.stream (stamp (event e)) (stream (event e))) (keys d).0 (subst (λ n. IsSooner (stamp (event d)) n (stamp (event e)) (stream (event e))) (keys d).1 h)))

  before-all-lift : (d : DeedOf M) (ds : List (DeedOf M)) → BeforeAll EventsBefore (event d) (map event ds) → BeforeAll IsBefore d ds
  before-all-lift d [] h = tt
  before-all-lift d (f ∷ fs) h = (before-lift d f h.0, before-all-lift d fs h.1)

  in-order-lift : (ds : List (DeedOf M)) → InOrder EventsBefore (map event ds) → InOrder IsBefore ds
  in-order-lift [] h = tt
  in-order-lift (d ∷ ds) h = (before-all-lift d ds h.0, in-order-lift ds h.1)

  among-map : (e : Event) (ds : List (DeedOf M)) → Among e (map event ds) → (d : DeedOf M) × Among d ds × (e ≡ event d)
  among-map e [] m = absurd m
  among-map e (d ∷ ds) m = elim m [ inl q ↦ (d, inl refl, q) | inr n ↦ (let r : (d : DeedOf M) × Among d ds × (e ≡ event d) = among-map e ds n in (r.0, inr r.1, r.2)) ]

  module _ (rises : (s : ℕ) → RisesAbove 0 (deed_stamps (logs s))) (own : (s : ℕ) (d : DeedOf M) → Contains (logs s) d → d.stream ≡ s) (J : List Event) (sorted : IsSortedAs event stamp stream logs J) where
    -- each deed of a log is in the lifted list, since its log has but one deed of its stamp
    all-lifted : (l : Lifts J) (s : ℕ) (d : DeedOf M) → Contains (logs s) d → Among d l.deeds
    all-lifted l s d m =
        let r : (f : DeedOf M) × Among f l.deeds × (event d ≡ event f) = among-map (event d) l.deeds (subst (Among (event d)) (sym l.events) (to-among J (event d) (sorted.all s d m))) in
        let same : d.stamp ≡ r.0.stamp = sym (keys d).0 ∙ (ap stamp r.2 ∙ (keys r.0).0) in
        let there : Contains (logs s) r.0 = subst (λ n. Contains (logs n) r.0) (sym (keys r.0).1 ∙ (ap stream (sym r.2) ∙ ((keys d).1 ∙ own s d m))) (l.logged r.0 r.1) in
        subst (λ z. Among z l.deeds) (sym (one-stamp (λ (f : DeedOf M). f.stamp) (logs s) d r.0 (rises-in-order (λ (f : DeedOf M). f.stamp) 0 (logs s) (rises s)) (to-among (logs s) d m) (to-among (logs s) r.0 there) same)) r.1

    lifted : (ds : List (DeedOf M)) × IsSorted logs ds × (map event ds ≡ J)
    lifted =
        let l : Lifts J = lifts J (λ e m. sorted.only e (from-among J e m)) in (
          l.deeds,
          record {
            in_order = in-order-lift l.deeds (subst (InOrder EventsBefore) (sym l.events) sorted.in_order);
            all = λ s d m. from-among l.deeds d (all-lifted l s d m);
            only = λ d m. l.logged d (to-among l.deeds d m);
          },
          l.events,
        )

pub events-lift : (M : Machine) (Event : Type 0) → EventsLift M Event
events-lift M Event event stamp stream keys logs J rises own sorted = lifted M Event event stamp stream keys logs rises own J sorted
