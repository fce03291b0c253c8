-- A look keeps a sound state sound.
use Rattle.std.proofs.Common.{◌≡◌, ℕ, ◌<◌, Bool, true, false, [], ◌∷◌, length, Option, Some, None, refl, sym, ◌∙◌, ap, subst, inl}
use Rattle.std.specs.Prelude.{IfSome}
use Rattle.abt_machine.specs.declared.events.Place.TheVariants as place
use Rattle.abt_machine.specs.declared.events.What.TheVariants as what
use Rattle.abt_machine.specs.Stored.{Stored}
use Rattle.abt_machine.specs.declared.workload.Parts.{Parts}
use Rattle.abt_machine.specs.Numbers.{stream_no, unit_no}
use Rattle.abt_machine.specs.Carrying.{with_home}
use Rattle.abt_machine.specs.State.{State, Mark, Plain, Asked}
use Rattle.abt_machine.specs.Lines.{InTray, InHand, InNext, ticket_in, tray_end}
use Rattle.abt_machine.specs.Next.{LookDue}
use Rattle.abt_machine.specs.Frames.{marked}
use Rattle.abt_machine.specs.Changes.{Change, to_tray}
use Rattle.abt_machine.specs.Events.{May, change, look_row, without_requests}
use Rattle.abt_machine.specs.Sound.{Sound, IsPlaced, IsAtRest}
use Rattle.abt_laws.proofs.SoundEvents.{handed, keeps-event}
use Rattle.abt_laws.proofs.Dues.{due-no_tray}
use Rattle.abt_laws.proofs.Maps.{put_at-same}
use Rattle.abt_laws.proofs.Places.{ticket-place, same-self}
use Rattle.abt_laws.proofs.Arrivals.{IsEmpty, IsBelow-empty, free-empty, tray-free}
use Rattle.abt_laws.proofs.Standing.{StandsIn, first-stands}
use Rattle.abt_laws.proofs.SoundChanges.{Keeps, AsksWell}
use Rattle.abt_laws.proofs.SoundFrames.{IsFrameless, frames-stay}
use Rattle.abt_laws.proofs.Locks.{IsOffLocks}
use Rattle.abt_laws.proofs.Wakes.{IsWakeable, frameless-in, off-in, empty-after, tray-well}

-- nothing is asked afterwards
pub asks-nothing : (W : Parts) (S : State) (u : ℕ) → AsksWell W S u (without_requests (S.desk u))
asks-nothing W S u = record { asks = inl (λ h. (refl, refl)); request = tt }

module _ (W : Parts) (Z : Stored) (S : State) (s u : ℕ) (sound : Sound W Z S) (no_tray : IsEmpty (InTray s) S.place) (is : StandsIn W S (InNext s) u) where
  placed : IsPlaced W S u (place.Next (stream_no s))
  placed = subst (IsPlaced W S u) is.at (sound.placed u)

  frameless : IsFrameless S u
  frameless = frameless-in S (InNext s) u is.ticket tt is.at

  off : IsOffLocks W (S.place u)
  off = off-in W S (InNext s) u is.ticket tt is.at

  no-hand : IsEmpty (InHand s) S.place
  no-hand v t h = sound.hand_or_next s v u (ticket-place (InHand s) (S.place v) t h) is.at

  -- u comes to the hand, with a mark
  keeps-look_hand : (m : Mark) → Keeps W Z S (handed S s u m)
  keeps-look_hand m =
      let c : Change = handed S s u m in
      keeps-event W Z S sound ((u, place.Hand (stream_no s)) ∷ []) [] ((u, without_requests (S.desk u)) ∷ []) [] ((s, marked m (S.stream s)) ∷ [])
      (free-empty S.place u (place.Hand (stream_no s)) (InHand s) 0 (same-self s 0) no-hand, tt) (
        record {
          declared = is.declared;
          placed = (placed.0, subst IsAtRest (sym (put_at-same S.stream s (marked m (S.stream s)))) placed.1);
          alone = empty-after S c (InNext s) ((λ e. cc), tt) (λ v t h. inl (sound.one_each (InNext s) v u 0 (ap (ticket_in (InNext s)) (ticket-place (InNext s) (S.place v) t h) ∙ same-self s 0) (ap (ticket_in (InNext s)) is.at ∙ same-self s 0)));
          joined = inl refl;
        },
        tt,
      )
      (tt, tt) ((off, tt), tt) tt (asks-nothing W S u, tt) tt
      (frames-stay W Z S c sound (frameless, tt) (record { below = refl; sched = refl; rest = λ v at h. h; under_way = λ k. (sound.under_way s k).0 }, tt))

  -- u comes to the tray, with another home
  keeps-look_tray : (p : ℕ) → p < length W.pools → Keeps W Z S (look_row W S s u false (Some p))
  keeps-look_tray p l =
      let c : Change = look_row W S s u false (Some p) in
      let wakes : IsWakeable W S u = record { declared = is.declared; frameless = frameless; off_locks = off } in
      keeps-event W Z S sound (to_tray W S s (u ∷ [])) ((u, with_home p (S.carried u)) ∷ []) ((u, without_requests (S.desk u)) ∷ []) [] []
      (tray-free s (tray_end W S s) S.place (u ∷ []) (IsBelow-empty (InTray s) (tray_end W S s) S.place no_tray))
      (tray-well W S c s (tray_end W S s) (u ∷ []) placed.0 placed.1 (wakes, tt))
      (tt, tt) ((off, tt), tt) (record { keys = sound.keys u; home = l; position = sound.positions u }, tt) (asks-nothing W S u, tt) tt
      (frames-stay W Z S c sound (frameless, tt) tt)

  keeps-look_by : (b : Bool) (m : Option ℕ) → (S.desk u).migrate ≡ m → Keeps W Z S (look_row W S s u b m)
  keeps-look_by true m e = keeps-look_hand Asked
  keeps-look_by false (Some p) e = keeps-look_tray p (subst (λ o. IfSome o (λ q. q < length W.pools)) e (sound.requests u))
  keeps-look_by false None e = keeps-look_hand Plain

pub keeps-look : (W : Parts) (Z : Stored) (S : State) (s u : ℕ) → Sound W Z S → May W Z S s (what.Look (unit_no u)) → Keeps W Z S (change W S s (what.Look (unit_no u)))
keeps-look W Z S s u sound may =
    keeps-look_by W Z S s u sound (due-no_tray W S s sound.undeclared LookDue may.0 tt) (first-stands W S (InNext s) u may.1) (S.desk u).cancel (S.desk u).migrate refl
