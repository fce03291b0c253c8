-- Enter and Leave are events; they call nothing.
use Rattle.std.proofs.Common.{◌≡◌, ℕ, suc, ◌<◌, ◌≤◌, ◌-◌, List, [], ◌∷◌, ◌++◌, length, map, Some, None, refl, ◌∙◌, ap, subst, arith}
use Rattle.abt_machine.specs.declared.events.Place.{Place}
use Rattle.abt_machine.specs.declared.events.Place.TheVariants as place
use Rattle.abt_machine.specs.declared.events.What.TheVariants as what
use Rattle.abt_machine.specs.Stored.{Stored}
use Rattle.abt_machine.specs.declared.workload.Parts.{Parts}
use Rattle.abt_machine.specs.Numbers.{stream_no, unit_no}
use Rattle.abt_machine.specs.Queues.{first, last}
use Rattle.abt_machine.specs.Workloads.{body_at}
use Rattle.abt_machine.specs.State.{State, Frame}
use Rattle.abt_machine.specs.Lines.{InTray, InHand, InNext, InFrames, ticket_in, standing}
use Rattle.abt_machine.specs.Next.{EnterDue, LeaveDue}
use Rattle.abt_machine.specs.Frames.{entered, sched_of, left}
use Rattle.abt_machine.specs.Changes.{Change}
use Rattle.abt_machine.specs.Events.{change}
use Rattle.abt_machine.specs.Sound.{Sound, IsPlaced}
use Rattle.abt_machine.specs.Values.{Owned, owned_at, owned_in, part_of, Object}
use Rattle.abt_machine.specs.Turns.{due_of}
use Rattle.abt_laws.proofs.Maps.{put_at-same}
use Rattle.abt_laws.proofs.Places.{same-self, ticket-place}
use Rattle.abt_laws.proofs.Arrivals.{IsEmpty, IsBelow-empty}
use Rattle.abt_laws.proofs.Standing.{among-standing, is-declared}
use Rattle.abt_laws.proofs.SoundChanges.{placed-below}
use Rattle.abt_laws.proofs.Dues.{due-no_hand, leave-below}
use Rattle.abt_laws.proofs.DueParts.{due-same}
use Rattle.abt_laws.proofs.Pushes.{IsDistinct}
use Rattle.abt_laws.proofs.LinesAfter.{line-left, line-gets, line-empty, all_but, all_but-first, all_but-last}
use Rattle.abt_simulation.proofs.Acting.{IsActing, acting}
use Rattle.abt_simulation.proofs.Lasts.{IsLast, last-queue}
use Rattle.abt_simulation.proofs.OwnedLines.{Head, head-of, owned-stays, owned-joined}
use Rattle.abt_simulation.proofs.OwnParts.{hand-standing, standing-distinct}
use Rattle.abt_simulation.proofs.Ends.{AtBack, at-back, last-append}
use Rattle.abt_simulation.proofs.Simulated.{Simulated}

module _ (W : Parts) (Z : Stored) (S : State) (s : ℕ) (sound : Sound W Z S) (object : Object) (o : Owned) where
  -- an entry: the unit goes from the hand to a frame of its own
  pub simulate-enter : due_of W s (part_of W S s) ≡ EnterDue → first (owned_in W S (InHand s)) ≡ Some o →
      Simulated W Z S s (what.Enter (unit_no o.number)) None (record (part_of W S s) { own = entered (sched_of (body_at W o.number)) (S.stream s); hand = None; framed = (part_of W S s).framed ++ o ∷ [] }) object
  simulate-enter is hands =
      let h : Head S (standing W S (InHand s)) o = head-of S (standing W S (InHand s)) o hands in
      let acts : IsActing W Z S s o.number = acting W Z S s o.number EnterDue sound (due-same W S s ∙ is) tt tt h.is in
      let c : Change = change W S s (what.Enter (unit_no o.number)) in
      let d : ℕ = length (S.stream s).below in
      let pl : Place = place.Frame (stream_no s) d in
      record {
        may = (due-same W S s ∙ is, h.is);
        own = λ i. record {
          own = put_at-same S.stream s (entered (sched_of (body_at W o.number)) (S.stream s)) i;
          hand = ap (λ us. first (map (owned_at S) us))
              (line-left (length W.units) (InHand s) S.place ((o.number, pl) ∷ []) (refl, tt) ∙ (ap (all_but o.number pl) (hand-standing W Z S s o.number acts) ∙ all_but-first o.number pl [] ((λ m. m), tt))) i;
          next = first (owned-stays W S c (InNext s) (refl, tt) (ap (ticket_in (InNext s)) acts.in_hand, tt) tt i);
          tray = owned-stays W S c (InTray s) (refl, tt) (ap (ticket_in (InTray s)) acts.in_hand, tt) tt i;
          framed = (owned-joined W S (InFrames s) o.number d [] c (same-self s) acts.declared (ap (ticket_in (InFrames s)) acts.in_hand) (placed-below W Z S (InFrames s) d sound (λ v t k. k.1)) tt tt tt
              ∙ ap (λ (q : Owned). owned_in W S (InFrames s) ++ q ∷ []) h.owns) i;
        };
        called = tt;
      }

  -- the last of the frames is the top one
  module _ (is : due_of W s (part_of W S s) ≡ LeaveDue) (before : List ℕ) (frames : standing W S (InFrames s) ≡ before ++ o.number ∷ []) where
    -- its place is that of the top frame
    top-frame : S.place o.number ≡ place.Frame (stream_no s) (length (S.stream s).below - 1)
    top-frame =
        let below : (f : Frame) × (rest : List Frame) × ((S.stream s).below ≡ f ∷ rest) = leave-below W S s (due-same W S s ∙ is) in
        let many : length (S.stream s).below ≡ suc (length below.1) = ap length below.2 in
        let highest : (w : ℕ) × (S.place w ≡ place.Frame (stream_no s) (length below.1)) = sound.frames_hold s (length below.1) (omega arith) in
        let ticket : ticket_in (InFrames s) (S.place highest.0) ≡ Some (length below.1) = ap (ticket_in (InFrames s)) highest.1 ∙ same-self s (length below.1) in
        let it : IsLast (λ v. ticket_in (InFrames s) (S.place v)) (standing W S (InFrames s)) o.number = last-queue (λ v. ticket_in (InFrames s) (S.place v)) (length W.units) o.number (ap last frames ∙ last-append before o.number) in
        let at : S.place o.number ≡ place.Frame (stream_no s) it.ticket = ticket-place (InFrames s) (S.place o.number) it.ticket it.has in
        let placed : IsPlaced W S o.number (place.Frame (stream_no s) it.ticket) = subst (IsPlaced W S o.number) at (sound.placed o.number) in
        let less : it.ticket < length (S.stream s).below = placed.1 in
        let most : length below.1 ≤ it.ticket = it.most highest.0 (length below.1) (among-standing W S sound.undeclared (InFrames s) highest.0 (length below.1) ticket) ticket in
        let exact : it.ticket ≡ length (S.stream s).below - 1 = omega arith in
        at ∙ ap (place.Frame (stream_no s)) exact

  -- a leave: the unit of the top frame goes to the hand
  pub simulate-leave : (os : List Owned) → due_of W s (part_of W S s) ≡ LeaveDue → owned_in W S (InFrames s) ≡ os ++ o ∷ [] →
      Simulated W Z S s (what.Leave (unit_no o.number)) None (record (part_of W S s) { own = left (S.stream s); hand = Some o; framed = os }) object
  simulate-leave os is frames =
      let b : AtBack S (standing W S (InFrames s)) o os = at-back S (standing W S (InFrames s)) o os frames in
      let at : S.place o.number ≡ place.Frame (stream_no s) (length (S.stream s).below - 1) = top-frame is b.before b.is in
      let declared : o.number < length W.units = is-declared W S sound.undeclared o.number (place.Frame (stream_no s) (length (S.stream s).below - 1)) at (λ e. cc) in
      let no_hand : IsEmpty (InHand s) S.place = due-no_hand W S s sound.undeclared LeaveDue (due-same W S s ∙ is) tt in
      let c : Change = change W S s (what.Leave (unit_no o.number)) in
      let pl : Place = place.Hand (stream_no s) in
      record {
        may = (due-same W S s ∙ is, at);
        own = λ i. record {
          own = put_at-same S.stream s (left (S.stream s)) i;
          hand = (ap (λ us. first (map (owned_at S) us))
              (line-gets (length W.units) (InHand s) S.place o.number 0 (same-self s 0) declared (ap (ticket_in (InHand s)) at) (IsBelow-empty (InHand s) 0 S.place no_hand)
              ∙ ap (λ us. us ++ o.number ∷ []) (line-empty (length W.units) (InHand s) S.place no_hand))
              ∙ ap (λ (q : Owned). Some q) b.owns) i;
          next = first (owned-stays W S c (InNext s) (refl, tt) (ap (ticket_in (InNext s)) at, tt) tt i);
          tray = owned-stays W S c (InTray s) (refl, tt) (ap (ticket_in (InTray s)) at, tt) tt i;
          framed = (ap (map (owned_at S))
              (line-left (length W.units) (InFrames s) S.place ((o.number, pl) ∷ []) (refl, tt)
              ∙ (ap (all_but o.number pl) b.is ∙ all_but-last o.number pl b.before (subst IsDistinct b.is (standing-distinct W S (InFrames s)))))
              ∙ b.others) i;
        };
        called = tt;
      }
