-- Take, Miss and Put: if a pool answers so, they are events.
use Rattle.std.proofs.Common.{◌≡◌, ℕ, Bool, true, false, List, [], ◌∷◌, ◌++◌, length, map, Some, None, refl, sym, ◌∙◌, ap, subst}
use Rattle.abt_machine.specs.declared.events.Place.{Place}
use Rattle.abt_machine.specs.declared.events.Place.TheVariants as place
use Rattle.abt_machine.specs.declared.events.Site.TheVariants as site
use Rattle.abt_machine.specs.declared.events.What.TheVariants as what
use Rattle.abt_machine.specs.declared.operations.Kind.{Kind}
use Rattle.abt_machine.specs.declared.operations.Kind.TheVariants as kind
use Rattle.abt_machine.specs.Stored.{Stored}
use Rattle.abt_machine.specs.declared.workload.Parts.{Parts}
use Rattle.abt_machine.specs.Numbers.{stream_no, pool_no, unit_no}
use Rattle.abt_machine.specs.Queues.{first, last}
use Rattle.abt_machine.specs.Workloads.{kind_of}
use Rattle.abt_machine.specs.State.{State}
use Rattle.abt_machine.specs.Lines.{Line, InPool, InTray, InHand, InNext, InFrames, ticket_in, standing}
use Rattle.abt_machine.specs.Next.{RoundDue, PutDue}
use Rattle.abt_machine.specs.Fronts.{at_end, owns, side_by, side_of}
use Rattle.abt_machine.specs.Frames.{round_taken, round_missed}
use Rattle.abt_machine.specs.Rounds.{IsNextPool}
use Rattle.abt_machine.specs.Changes.{Change}
use Rattle.abt_machine.specs.Events.{change}
use Rattle.abt_machine.specs.Sound.{Sound}
use Rattle.abt_machine.specs.Values.{Owned, owned_at, owned_in, part_of, Object, PoolIs, object_of}
use Rattle.abt_machine.specs.Acts as act
use Rattle.abt_machine.specs.Pools.{with_end}
use Rattle.abt_machine.specs.Gives.{SiteGives}
use Rattle.abt_machine.specs.Turns.{due_of}
use Rattle.abt_laws.proofs.Maps.{put_at-same}
use Rattle.abt_laws.proofs.Places.{same-self}
use Rattle.abt_laws.proofs.Arrivals.{IsEmpty, IsBelow-empty}
use Rattle.abt_laws.proofs.Standing.{StandsIn, front-stands, first-stands}
use Rattle.abt_laws.proofs.SoundChanges.{placed-below}
use Rattle.abt_laws.proofs.Dues.{due-no_next}
use Rattle.abt_laws.proofs.DueParts.{due-same}
use Rattle.abt_laws.proofs.Pushes.{IsDistinct}
use Rattle.abt_laws.proofs.LinesAfter.{line-left, line-gets, line-empty, all_but, all_but-first, all_but-last}
use Rattle.abt_simulation.proofs.Ends.{AtFront, at-front, AtBack, at-back, last-append}
use Rattle.abt_simulation.proofs.OwnedLines.{nobody-owned, owned-stays, owned-joined}
use Rattle.abt_simulation.proofs.OwnParts.{IsOwn, IsOff, off-object, standing-distinct}
use Rattle.abt_simulation.proofs.Simulated.{Simulated}

-- What a pool answers.

-- unit o is the one that is taken, and the others are left
pub record Fronted (S : State) (k : Kind) (own : Bool) (us : List ℕ) (o : Owned) (os : List Owned) : Type 0 where
  pub is : at_end (side_by k own) us ≡ Some o.number
  pub owns : owned_at S o.number ≡ o
  pub others : (pl : Place) → map (owned_at S) (all_but o.number pl us) ≡ os

module _ (S : State) (us : List ℕ) (o : Owned) (os : List Owned) (distinct : IsDistinct us) where
  -- a take of the first
  from-front : (k : Kind) (own : Bool) → ((vs : List ℕ) → at_end (side_by k own) vs ≡ first vs) → map (owned_at S) us ≡ o ∷ os → Fronted S k own us o os
  from-front k own is_first e =
      let f : AtFront S us o os = at-front S us o os e in
      record {
        is = is_first us ∙ ap first f.is;
        owns = f.owns;
        others = λ pl. ap (λ vs. map (owned_at S) (all_but o.number pl vs)) f.is ∙ (ap (map (owned_at S)) (all_but-first o.number pl f.rest (subst IsDistinct f.is distinct)) ∙ f.others);
      }

  -- a take of the last
  from-back : map (owned_at S) us ≡ os ++ o ∷ [] → Fronted S kind.Deque true us o os
  from-back e =
      let f : AtBack S us o os = at-back S us o os e in
      record {
        is = ap last f.is ∙ last-append f.before o.number;
        owns = f.owns;
        others = λ pl. ap (λ vs. map (owned_at S) (all_but o.number pl vs)) f.is ∙ (ap (map (owned_at S)) (all_but-last o.number pl f.before (subst IsDistinct f.is distinct)) ∙ f.others);
      }

  -- each take by the pool's kind
  fronted : (k : Kind) (own : Bool) → map (owned_at S) us ≡ with_end (side_by k own) o os → Fronted S k own us o os
  fronted kind.Fifo own e = from-front kind.Fifo own (λ vs. refl) e
  fronted kind.Deque false e = from-front kind.Deque false (λ vs. refl) e
  fronted kind.Deque true e = from-back e

-- there is none in an empty pool
no-front : (k : Kind) (own : Bool) (us : List ℕ) → us ≡ [] → at_end (side_by k own) us ≡ None
no-front kind.Fifo own us e = ap first e
no-front kind.Deque false us e = ap first e
no-front kind.Deque true us e = ap last e

-- Events at pool p.

module _ (W : Parts) (Z : Stored) (S : State) (s p : ℕ) (sound : Sound W Z S) (object : Object) where
  -- a miss, if the pool answers so
  pub simulate-miss : due_of W s (part_of W S s) ≡ RoundDue → IsNextPool W Z.orders (S.stream s).top p → SiteGives (object_of W S (site.Pool (pool_no p))) (act.Take (side_of W s p)) act.Miss object →
      Simulated W Z S s (what.Miss (pool_no p)) (Some (site.Pool (pool_no p), act.Take (side_of W s p), act.Miss)) (record (part_of W S s) { own = round_missed W p (S.stream s) }) object
  simulate-miss is order gives = record {
    may = (due-same W S s ∙ is, no-front (kind_of W p) (owns W s p) (standing W S (InPool p)) (nobody-owned S (standing W S (InPool p)) gives.2.1), order);
    own = λ i. record (part_of W S s) { own = put_at-same S.stream s (round_missed W p (S.stream s)) i };
    called = ap PoolIs (sym gives.2.2) ∙ sym gives.1;
  }

  -- a take of the unit that the pool answers with
  pub simulate-take : (o : Owned) → due_of W s (part_of W S s) ≡ RoundDue → IsNextPool W Z.orders (S.stream s).top p → SiteGives (object_of W S (site.Pool (pool_no p))) (act.Take (side_of W s p))
      (act.Given o) object →
      Simulated W Z S s (what.Take (pool_no p) (unit_no o.number)) (Some (site.Pool (pool_no p), act.Take (side_of W s p), act.Given o)) (record (part_of W S s) { own = round_taken (S.stream s); next = Some o }) object
  simulate-take o is order gives =
      let u : ℕ = o.number in
      let f : Fronted S (kind_of W p) (owns W s p) (standing W S (InPool p)) o gives.0.units = fronted S (standing W S (InPool p)) o gives.0.units (standing-distinct W S (InPool p)) (kind_of W p) (owns W s p) gives.2.1 in
      let at : StandsIn W S (InPool p) u = front-stands W S s p u f.is in
      let out : (l : Line) → IsOwn s l → ticket_in l (S.place u) ≡ None = subst (IsOff s) (sym at.at) (off-object s (InPool p) at.ticket tt) in
      let empty : IsEmpty (InNext s) S.place = due-no_next W S s sound.undeclared RoundDue (due-same W S s ∙ is) tt in
      let c : Change = change W S s (what.Take (pool_no p) (unit_no u)) in
      record {
        may = (due-same W S s ∙ is, f.is, order);
        own = λ i. record {
          own = put_at-same S.stream s (round_taken (S.stream s)) i;
          hand = first (owned-stays W S c (InHand s) (refl, tt) (out (InHand s) refl, tt) tt i);
          next = (ap (λ us. first (map (owned_at S) us)) (line-gets (length W.units) (InNext s) S.place u 0 (same-self s 0) at.declared (out (InNext s) refl) (IsBelow-empty (InNext s) 0 S.place empty) ∙ ap (λ us. us ++ u ∷ []) (line-empty (length W.units) (InNext s) S.place empty))
              ∙ ap (λ (q : Owned). Some q) f.owns) i;
          tray = owned-stays W S c (InTray s) (refl, tt) (out (InTray s) refl, tt) tt i;
          framed = owned-stays W S c (InFrames s) (refl, tt) (out (InFrames s) refl, tt) tt i;
        };
        called = (λ i. PoolIs (record { kind = sym gives.2.2 i; units = (ap (map (owned_at S)) (line-left (length W.units) (InPool p) S.place ((u, place.Next (stream_no s)) ∷ []) (refl, tt)) ∙ f.others (place.Next (stream_no s))) i })) ∙ sym gives.1;
      }

  -- a put of the first of the tray
  pub simulate-put : (o : Owned) (os : List Owned) → due_of W s (part_of W S s) ≡ PutDue → owned_in W S (InTray s) ≡ o ∷ os → o.carried.home ≡ p → SiteGives (object_of W S (site.Pool (pool_no p))) (act.Put o) act.Rested object →
      Simulated W Z S s (what.Put (unit_no o.number) (pool_no p)) (Some (site.Pool (pool_no p), act.Put o, act.Rested)) (record (part_of W S s) { tray = os }) object
  simulate-put o os is trays home gives =
      let u : ℕ = o.number in
      let f : AtFront S (standing W S (InTray s)) o os = at-front S (standing W S (InTray s)) o os trays in
      let at : StandsIn W S (InTray s) u = first-stands W S (InTray s) u (ap first f.is) in
      let c : Change = change W S s (what.Put (unit_no u) (pool_no p)) in
      let pl : Place = place.Pool (pool_no p) (S.pool_next p) in
      record {
        may = (due-same W S s ∙ is, ap first f.is, ap (λ (q : Owned). q.carried.home) f.owns ∙ home);
        own = λ i. record {
          own = S.stream s;
          hand = first (owned-stays W S c (InHand s) (refl, tt) (ap (ticket_in (InHand s)) at.at, tt) tt i);
          next = first (owned-stays W S c (InNext s) (refl, tt) (ap (ticket_in (InNext s)) at.at, tt) tt i);
          tray = (ap (map (owned_at S)) (line-left (length W.units) (InTray s) S.place ((u, pl) ∷ []) (refl, tt) ∙ (ap (all_but u pl) f.is ∙ all_but-first u pl f.rest (subst IsDistinct f.is (standing-distinct W S (InTray s))))) ∙ f.others) i;
          framed = owned-stays W S c (InFrames s) (refl, tt) (ap (ticket_in (InFrames s)) at.at, tt) tt i;
        };
        called =
            ap (λ us. PoolIs (record { kind = kind_of W p; units = us }))
            (owned-joined W S (InPool p) u (S.pool_next p) [] c (same-self p) at.declared (ap (ticket_in (InPool p)) at.at) (placed-below W Z S (InPool p) (S.pool_next p) sound (λ v t k. k.1)) tt tt tt
            ∙ ap (λ (q : Owned). owned_in W S (InPool p) ++ q ∷ []) f.owns)
            ∙ (ap PoolIs (sym gives.2) ∙ sym gives.1);
      }
