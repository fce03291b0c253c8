-- An end keeps a sound state sound. Nobody joins the ended unit afterwards, since all its joiners go to the tray.
use Rattle.std.proofs.Common.{◌≡◌, ℕ, List, Some, refl, sym, subst, inr, [], ◌∷◌}
use Rattle.abt_machine.specs.declared.events.Cause.{Cause}
use Rattle.abt_machine.specs.declared.events.Place.TheVariants as place
use Rattle.abt_machine.specs.declared.events.What.TheVariants as what
use Rattle.abt_machine.specs.Stored.{Stored}
use Rattle.abt_machine.specs.declared.workload.Parts.{Parts}
use Rattle.abt_machine.specs.Numbers.{stream_no, unit_no}
use Rattle.abt_machine.specs.Maps.{put_at}
use Rattle.abt_machine.specs.State.{State}
use Rattle.abt_machine.specs.Lines.{InTray, InHand, Joining, standing, tray_end}
use Rattle.abt_machine.specs.Next.{EndDue}
use Rattle.abt_machine.specs.Changes.{Change, to_tray}
use Rattle.abt_machine.specs.Events.{May, change, without_requests}
use Rattle.abt_machine.specs.Sound.{Sound, IsPlaced, HasNoRequest}
use Rattle.abt_laws.proofs.LineMoves.{tray_moves-places, tray_moves-key}
use Rattle.abt_laws.proofs.SoundEvents.{keeps-event}
use Rattle.abt_laws.proofs.Dues.{due-no_tray}
use Rattle.abt_laws.proofs.Maps.{put_at-same}
use Rattle.abt_laws.proofs.Places.{line_of}
use Rattle.abt_laws.proofs.Arrivals.{IsBelow-empty, IsBelow-move, free-nowhere, tray-free}
use Rattle.abt_laws.proofs.Standing.{StandsIn, first-stands, among-standing}
use Rattle.abt_laws.proofs.SoundChanges.{Keeps}
use Rattle.abt_laws.proofs.SoundFrames.{frames-stay}
use Rattle.abt_laws.proofs.Barriers.{IsOffBarriers}
use Rattle.abt_laws.proofs.SoundLook.{asks-nothing}
use Rattle.abt_laws.proofs.Wakes.{frameless-in, off-in, wakeable-line, empty-after, tray-well, tray-frameless, tray-off}

ended-asks : (S : State) (u : ℕ) → HasNoRequest (put_at S.desk u (without_requests (S.desk u)) u)
ended-asks S u = subst HasNoRequest (sym (put_at-same S.desk u (without_requests (S.desk u)))) (refl, refl)

pub keeps-end : (W : Parts) (Z : Stored) (S : State) (s u : ℕ) (e : Cause) → Sound W Z S → May W Z S s (what.End (unit_no u) e) → Keeps W Z S (change W S s (what.End (unit_no u) e))
keeps-end W Z S s u e sound may =
    let c : Change = change W S s (what.End (unit_no u) e) in
    let is : StandsIn W S (InHand s) u = first-stands W S (InHand s) u may.1 in
    let placed : IsPlaced W S u (place.Hand (stream_no s)) = subst (IsPlaced W S u) is.at (sound.placed u) in
    let us : List ℕ = standing W S (Joining u) in
    let i : ℕ = tray_end W S s in
    keeps-event W Z S sound ((u, place.Ended e) ∷ to_tray W S s us) [] ((u, without_requests (S.desk u)) ∷ []) [] [] (
      free-nowhere S.place u (place.Ended e) refl,
      tray-free s i (put_at S.place u (place.Ended e)) us (IsBelow-move (InTray s) i S.place u (place.Ended e) (λ h. cc) (IsBelow-empty (InTray s) i S.place (due-no_tray W S s sound.undeclared (EndDue e) may.0 tt))),
    ) (
      record {
        declared = is.declared;
        placed = ended-asks S u;
        alone = tt;
        joined = inr (empty-after S c (Joining u) ((λ h. cc), tray_moves-places (λ pl. line_of pl ≡ Some (Joining u) → ⊥) s i us (λ t h. cc)) (λ v t h. inr (tray_moves-key s i us v (among-standing W S sound.undeclared (Joining u) v t h))));
      },
      tray-well W S c s i us placed.0 placed.1 (wakeable-line W S (Joining u) tt tt),
    )
    (tt, tray_moves-places (IsOffBarriers W) s i us (λ t. tt)) ((off-in W S (InHand s) u is.ticket tt is.at, tt), tray-off W S s i us (wakeable-line W S (Joining u) tt tt)) tt (asks-nothing W S u, tt) tt
    (frames-stay W Z S c sound (frameless-in S (InHand s) u is.ticket tt is.at, tray-frameless W S s i us (wakeable-line W S (Joining u) tt tt)) tt)
