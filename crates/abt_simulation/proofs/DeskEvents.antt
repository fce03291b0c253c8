-- Look and End: if a desk answers so, they are events.
use Rattle.std.proofs.Common.{◌≡◌, ◌≢◌, ℕ, ◌<◌, Bool, true, false, List, [], ◌∷◌, ◌++◌, length, map, Option, Some, None, refl, sym, ◌∙◌, ap, inl, inr}
use Rattle.std.proofs.lemmas.Bool.{cond-true}
use Rattle.abt_machine.specs.declared.events.Cause.{Cause}
use Rattle.abt_machine.specs.declared.events.Place.{Place}
use Rattle.abt_machine.specs.declared.events.Place.TheVariants as place
use Rattle.abt_machine.specs.declared.events.Site.TheVariants as site
use Rattle.abt_machine.specs.declared.events.What.TheVariants as what
use Rattle.abt_machine.specs.Stored.{Stored}
use Rattle.abt_machine.specs.declared.workload.Parts.{Parts}
use Rattle.abt_machine.specs.Numbers.{stream_no, unit_no}
use Rattle.abt_machine.specs.Maps.{put_at, put_all}
use Rattle.abt_machine.specs.Queues.{first}
use Rattle.abt_machine.specs.State.{State, Carried, Mark, Plain, Asked}
use Rattle.abt_machine.specs.Lines.{InTray, InHand, InNext, InFrames, Joining, ticket_in, standing, tray_end}
use Rattle.abt_machine.specs.Next.{LookDue, EndDue}
use Rattle.abt_machine.specs.Carrying.{with_home}
use Rattle.abt_machine.specs.Frames.{marked}
use Rattle.abt_machine.specs.Changes.{Change, no_change, changed, to_tray}
use Rattle.abt_machine.specs.Events.{after, change, look_row, without_requests}
use Rattle.abt_machine.specs.Sound.{Sound}
use Rattle.abt_machine.specs.Values.{Owned, owned_at, owned_in, part_of, Object, DeskIs, Out, Ended, phase_at, desk_value, object_of}
use Rattle.abt_machine.specs.Acts as act
use Rattle.abt_machine.specs.Desks.{takes_back, with_ended, unasked}
use Rattle.abt_machine.specs.Gives.{SiteGives}
use Rattle.abt_machine.specs.Turns.{due_of, looked}
use Rattle.abt_laws.proofs.Lists.{EachOf, EachOf-then}
use Rattle.abt_laws.proofs.Maps.{KeyOf, EachOf-key, put_at-same, put_all-other}
use Rattle.abt_laws.proofs.Places.{same-self, ticket-place}
use Rattle.abt_laws.proofs.Arrivals.{IsEmpty, IsBelow-empty}
use Rattle.abt_laws.proofs.LineMoves.{tray_moves-each, tray_moves-key}
use Rattle.abt_laws.proofs.Standing.{StandsIn, first-stands}
use Rattle.abt_laws.proofs.Dues.{due-no_tray}
use Rattle.abt_laws.proofs.DueParts.{due-same}
use Rattle.abt_laws.proofs.Pushes.{each-among}
use Rattle.abt_laws.proofs.LinesAfter.{line_at, line-left, line-gets, line-empty, all_but, all_but-first}
use Rattle.abt_simulation.proofs.Acting.{IsActing, acting}
use Rattle.abt_simulation.proofs.OwnedLines.{Head, head-of, owned-stays, owned-emptied, owned-joined}
use Rattle.abt_simulation.proofs.OwnParts.{IsAway, off-nowhere, alone-standing, away-line, away-other, standing-distinct, next-standing, away-declared, away-loose, part-empties}
use Rattle.abt_simulation.proofs.Shapes.{none-to_tray}
use Rattle.abt_simulation.proofs.Phases.{desk-is, takes-own}
use Rattle.abt_simulation.proofs.Simulated.{Simulated}

module _ (W : Parts) (Z : Stored) (S : State) (s : ℕ) (sound : Sound W Z S) (object : Object) (o : Owned) where
  -- End.

  module _ (cause : Cause) (acts : IsActing W Z S s o.number) where
    -- the unit has ended afterwards
    end-place : put_all (put_at S.place o.number (place.Ended cause)) (to_tray W S s (standing W S (Joining o.number))) o.number ≡ place.Ended cause
    end-place =
        put_all-other (put_at S.place o.number (place.Ended cause)) (to_tray W S s (standing W S (Joining o.number))) o.number
        (λ k. EachOf-key (λ n. n ≢ o.number) (to_tray W S s (standing W S (Joining o.number))) o.number
        (tray_moves-each (λ m. m.0 ≢ o.number) (IsAway W S s) s (tray_end W S s) (standing W S (Joining o.number)) (λ v t a. away-other W Z S s o.number acts v a.off) (away-line W S s (Joining o.number) tt))
        k refl)
        ∙ put_at-same S.place o.number (place.Ended cause)

    -- it leaves the hand, and its joiners come to the tray
    end-part : part_of W (after W S s (what.End (unit_no o.number) cause)) s ≡ record (part_of W S s) { hand = None; tray = (part_of W S s).tray ++ owned_in W S (Joining o.number) }
    end-part =
        part-empties W Z S s o.number acts ((o.number, place.Ended cause) ∷ []) (standing W S (Joining o.number)) [] (record no_change { desks = (o.number, without_requests (S.desk o.number)) ∷ [] }) ((inl refl, off-nowhere s (place.Ended cause) refl), tt)
        (standing-distinct W S (Joining o.number)) (away-declared W Z S s o.number acts (standing W S (Joining o.number)) (away-line W S s (Joining o.number) tt)) (away-loose W Z S s o.number acts (standing W S (Joining o.number)) (away-line W S s (Joining o.number) tt)) tt (inl refl)
        ∙ (λ i. record (part_of W S s) { hand = None; next = first (map (owned_at S) (sym (next-standing W Z S s o.number acts) i)); tray = (part_of W S s).tray ++ owned_in W S (Joining o.number) })

    -- its desk has it, and nobody joins it any more
    end-desk : owned_at S o.number ≡ o → desk_value W (after W S s (what.End (unit_no o.number) cause)) o.number ≡ with_ended o cause (desk_value W S o.number)
    end-desk owns =
        desk-is W (after W S s (what.End (unit_no o.number) cause)) o.number _ _ (without_requests (S.desk o.number)) (ap (phase_at (owned_at S o.number)) end-place ∙ ap (λ q. Ended q cause) owns)
        (owned-emptied W S (change W S s (what.End (unit_no o.number) cause)) (Joining o.number) (refl, none-to_tray W S s (Joining o.number) (standing W S (Joining o.number)) tt)
        (each-among (λ v. KeyOf v (change W S s (what.End (unit_no o.number) cause)).moves) (standing W S (Joining o.number)) (λ v m. inr (tray_moves-key s (tray_end W S s) (standing W S (Joining o.number)) v m))))
        (put_at-same S.desk o.number (without_requests (S.desk o.number)))

  -- an end, if the desk answers with its joiners
  pub simulate-end : (cause : Cause) (os : List Owned) → due_of W s (part_of W S s) ≡ EndDue cause → first (owned_in W S (InHand s)) ≡ Some o → SiteGives (object_of W S (site.Desk (unit_no o.number))) (act.End o cause) (act.Woke os) object →
      Simulated W Z S s (what.End (unit_no o.number) cause) (Some (site.Desk (unit_no o.number), act.End o cause, act.Woke os)) (record (part_of W S s) { hand = None; tray = (part_of W S s).tray ++ os }) object
  simulate-end cause os is hands gives =
      let h : Head S (standing W S (InHand s)) o = head-of S (standing W S (InHand s)) o hands in
      let acts : IsActing W Z S s o.number = acting W Z S s o.number (EndDue cause) sound (due-same W S s ∙ is) tt tt h.is in
      let back : takes_back (desk_value W S o.number) o ≡ true = takes-own W Z S s o acts in
      let woken : os ≡ owned_in W S (Joining o.number) = gives.2.0 ∙ cond-true (takes_back (desk_value W S o.number) o) _ _ back in
      let new : gives.0 ≡ with_ended o cause (desk_value W S o.number) = gives.2.1 ∙ cond-true (takes_back (desk_value W S o.number) o) _ _ back in
      record {
        may = (due-same W S s ∙ is, h.is);
        own = end-part cause acts ∙ ap (λ us. record (part_of W S s) { hand = None; tray = (part_of W S s).tray ++ us }) (sym woken);
        called = ap DeskIs (end-desk cause acts h.owns ∙ sym new) ∙ sym gives.1;
      }

  -- Look.

  -- u in the Next of s, whose hand and tray are empty
  module _ (declared : o.number < length W.units) (at : S.place o.number ≡ place.Next (stream_no s)) (no_hand : IsEmpty (InHand s) S.place) (no_tray : IsEmpty (InTray s) S.place) (owns : owned_at S o.number ≡ o) where
    -- it alone is in Next
    next-is : standing W S (InNext s) ≡ o.number ∷ []
    next-is = alone-standing W S (InNext s) o.number (λ k v t. sound.one_each (InNext s) k v t) (λ t. refl) declared at

    -- nobody is in Next once it has moved
    next-left : (pl : Place) → ticket_in (InNext s) pl ≡ None → line_at (length W.units) (InNext s) (put_at S.place o.number pl) ≡ []
    next-left pl none =
        line-left (length W.units) (InNext s) S.place ((o.number, pl) ∷ []) (none, tt) ∙ (ap (all_but o.number pl) next-is ∙ all_but-first o.number pl [] ((λ m. m), tt))

    -- it comes to the hand, with a mark
    to-hand : (mark : Mark) (c : Change) → let d : Change = record c { moves = (o.number, place.Hand (stream_no s)) ∷ []; carried = []; streams = (s, marked mark (S.stream s)) ∷ [] } in
        part_of W (changed S d) s ≡ record (part_of W S s) { own = marked mark (S.stream s); hand = Some o; next = None }
    to-hand mark c =
        let d : Change = record c { moves = (o.number, place.Hand (stream_no s)) ∷ []; carried = []; streams = (s, marked mark (S.stream s)) ∷ [] } in
        λ i. record {
          own = put_at-same S.stream s (marked mark (S.stream s)) i;
          hand = (ap (λ us. first (map (owned_at S) us))
              (line-gets (length W.units) (InHand s) S.place o.number 0 (same-self s 0) declared (ap (ticket_in (InHand s)) at) (IsBelow-empty (InHand s) 0 S.place no_hand) ∙ ap (λ us. us ++ o.number ∷ []) (line-empty (length W.units) (InHand s) S.place no_hand))
              ∙ ap (λ (q : Owned). Some q) owns) i;
          next = ap (λ us. first (map (owned_at S) us)) (next-left (place.Hand (stream_no s)) refl) i;
          tray = owned-stays W S d (InTray s) (refl, tt) (ap (ticket_in (InTray s)) at, tt) tt i;
          framed = owned-stays W S d (InFrames s) (refl, tt) (ap (ticket_in (InFrames s)) at, tt) tt i;
        }

    -- the part afterwards, by the requests that were found
    look-part : (b : Bool) (m : Option ℕ) → part_of W (changed S (look_row W S s o.number b m)) s ≡ looked (part_of W S s) o b m
    look-part true m = to-hand Asked (record no_change { desks = (o.number, without_requests (S.desk o.number)) ∷ [] })
    look-part false None = to-hand Plain (record no_change { desks = (o.number, without_requests (S.desk o.number)) ∷ [] })
    look-part false (Some p) =
        let d : Change = look_row W S s o.number false (Some p) in
        let pl : Place = place.Tray (stream_no s) (tray_end W S s) in
        λ i. record {
          own = S.stream s;
          hand = first (owned-stays W S d (InHand s) (refl, tt) (ap (ticket_in (InHand s)) at, tt) (ap (ticket_in (InHand s)) at, tt) i);
          next = ap (λ us. first (map (owned_at (changed S d)) us)) (next-left pl refl) i;
          tray = (owned-joined W S (InTray s) o.number (tray_end W S s) [] d (same-self s) declared (ap (ticket_in (InTray s)) at) (IsBelow-empty (InTray s) (tray_end W S s) S.place no_tray) tt tt (ap (ticket_in (InTray s)) at, tt)
              ∙ ap (λ (k : Carried). owned_in W S (InTray s) ++ record { number = o.number; carried = k } ∷ []) (put_at-same S.carried o.number (with_home p (S.carried o.number)) ∙ ap (λ (q : Owned). with_home p q.carried) owns)) i;
          framed = owned-stays W S d (InFrames s) (refl, tt) (ap (ticket_in (InFrames s)) at, tt) (ap (ticket_in (InFrames s)) at, tt) i;
        }

    -- the unit's desk is out before and after
    look-phase : (q : Owned) (pl : Place) → phase_at q pl ≡ Out → phase_at q (put_at S.place o.number pl o.number) ≡ phase_at (owned_at S o.number) (S.place o.number)
    look-phase q pl out = ap (phase_at q) (put_at-same S.place o.number pl) ∙ (out ∙ sym (ap (phase_at (owned_at S o.number)) at))

    -- its desk is asked nothing afterwards, wherever the unit went
    look-desk_by : (pl : Place) (c : Change) → let d : Change = record c { moves = (o.number, pl) ∷ []; desks = (o.number, without_requests (S.desk o.number)) ∷ [] } in
        ((q : Owned) → phase_at q pl ≡ Out) → ticket_in (Joining o.number) pl ≡ None → EachOf (λ (m : ℕ × Carried). m.0 ≡ o.number) c.carried → desk_value W (changed S d) o.number ≡ unasked (desk_value W S o.number)
    look-desk_by pl c out none keys =
        let d : Change = record c { moves = (o.number, pl) ∷ []; desks = (o.number, without_requests (S.desk o.number)) ∷ [] } in
        let away : ticket_in (Joining o.number) (S.place o.number) ≡ None = ap (ticket_in (Joining o.number)) at in
        desk-is W (changed S d) o.number _ _ (without_requests (S.desk o.number)) (look-phase (owned_at (changed S d) o.number) pl (out (owned_at (changed S d) o.number)))
        (owned-stays W S d (Joining o.number) (none, tt) (away, tt) (EachOf-then (λ (m : ℕ × Carried). m.0 ≡ o.number) (λ (m : ℕ × Carried). ticket_in (Joining o.number) (S.place m.0) ≡ None) c.carried (λ m e. ap (λ n. ticket_in (Joining o.number) (S.place n)) e ∙ away) keys))
        (put_at-same S.desk o.number (without_requests (S.desk o.number)))

    -- so it is for all requests
    look-desk : (b : Bool) (m : Option ℕ) → desk_value W (changed S (look_row W S s o.number b m)) o.number ≡ unasked (desk_value W S o.number)
    look-desk true m = look-desk_by (place.Hand (stream_no s)) (record no_change { streams = (s, marked Asked (S.stream s)) ∷ [] }) (λ q. refl) refl tt
    look-desk false None = look-desk_by (place.Hand (stream_no s)) (record no_change { streams = (s, marked Plain (S.stream s)) ∷ [] }) (λ q. refl) refl tt
    look-desk false (Some p) = look-desk_by (place.Tray (stream_no s) (tray_end W S s)) (record no_change { carried = (o.number, with_home p (S.carried o.number)) ∷ [] }) (λ q. refl) refl (refl, tt)

  -- a look, if the desk answers with its requests
  pub simulate-look : (b : Bool) (m : Option ℕ) → due_of W s (part_of W S s) ≡ LookDue → first (owned_in W S (InNext s)) ≡ Some o → SiteGives (object_of W S (site.Desk (unit_no o.number))) act.Look (act.Asks b m) object →
      Simulated W Z S s (what.Look (unit_no o.number)) (Some (site.Desk (unit_no o.number), act.Look, act.Asks b m)) (looked (part_of W S s) o b m) object
  simulate-look b m is nexts gives =
      let h : Head S (standing W S (InNext s)) o = head-of S (standing W S (InNext s)) o nexts in
      let at : StandsIn W S (InNext s) o.number = first-stands W S (InNext s) o.number h.is in
      let no_hand : IsEmpty (InHand s) S.place = λ v t k. sound.hand_or_next s v o.number (ticket-place (InHand s) (S.place v) t k) at.at in
      let no_tray : IsEmpty (InTray s) S.place = due-no_tray W S s sound.undeclared LookDue (due-same W S s ∙ is) tt in
      record {
        may = (due-same W S s ∙ is, h.is);
        own = look-part at.declared at.at no_hand no_tray h.owns (S.desk o.number).cancel (S.desk o.number).migrate ∙ (λ i. looked (part_of W S s) o (sym gives.2.0 i) (sym gives.2.1 i));
        called = ap DeskIs (look-desk at.declared at.at no_hand no_tray h.owns (S.desk o.number).cancel (S.desk o.number).migrate ∙ sym gives.2.2) ∙ sym gives.1;
      }
