-- A take and a miss keep a sound state sound.
use Rattle.std.proofs.Common.{◌≡◌, ℕ, suc, ◌<◌, ◌==◌, true, false, List, [], ◌∷◌, ◌++◌, length, Some, None, refl, sym, ◌∙◌, ap, subst, inl}
use Rattle.std.proofs.lemmas.Bool.{cond_both, cond-true, eq-eqb}
use Rattle.abt_machine.specs.declared.events.Place.{Place}
use Rattle.abt_machine.specs.declared.events.Place.TheVariants as place
use Rattle.abt_machine.specs.declared.events.What.TheVariants as what
use Rattle.abt_machine.specs.Stored.{Stored}
use Rattle.abt_machine.specs.declared.workload.Parts.{Parts}
use Rattle.abt_machine.specs.Numbers.{stream_no, pool_no, unit_no}
use Rattle.abt_machine.specs.Workloads.{pools_of}
use Rattle.abt_machine.specs.State.{State, Stream, Frame}
use Rattle.abt_machine.specs.Lines.{InPool, InTray, InHand, InNext, ticket_in}
use Rattle.abt_machine.specs.Next.{RoundDue}
use Rattle.abt_machine.specs.Rounds.{OrdersStored}
use Rattle.abt_machine.specs.Frames.{frame_at, frame_missed, round_missed, round_taken}
use Rattle.abt_machine.specs.Changes.{Change}
use Rattle.abt_machine.specs.Events.{May, change}
use Rattle.abt_machine.specs.Sound.{Sound, IsAtRest, AllAtRest}
use Rattle.abt_machine.specs.Valid.{IsValid}
use Rattle.abt_laws.proofs.SoundEvents.{keeps-event}
use Rattle.abt_laws.proofs.Rounds.{next-under_way, missed-under_way}
use Rattle.abt_laws.proofs.Dues.{due-no_tray, due-no_next, due-no_hand}
use Rattle.abt_laws.proofs.Maps.{put_at-same}
use Rattle.abt_laws.proofs.Places.{same-self}
use Rattle.abt_laws.proofs.Arrivals.{IsEmpty, free-empty}
use Rattle.abt_laws.proofs.Standing.{StandsIn, front-stands}
use Rattle.abt_laws.proofs.SoundChanges.{Keeps, OnStream}
use Rattle.abt_laws.proofs.SoundFrames.{frames-stay}
use Rattle.abt_laws.proofs.Wakes.{frameless-in, off-in, empty-still}

-- a frame at the beginning of a round is at rest on those below it
pub fresh-rest : (g r : ℕ) (fs : List Frame) → AllAtRest fs → AllAtRest (frame_at g r false ∷ fs)
fresh-rest g r [] h = refl
fresh-rest g r (f ∷ fs) h = (refl, refl, h)

-- an idle stream holds no unit
off-stream : (S : State) (s : ℕ) → IsEmpty (InTray s) S.place → IsEmpty (InNext s) S.place → IsEmpty (InHand s) S.place → (u : ℕ) → OnStream s (S.place u) → ⊥
off-stream S s no_tray no_next no_hand u = by (S.place u) refl where
  by : (pl : Place) → S.place u ≡ pl → OnStream s pl → ⊥
  by (place.Hand r) is e = no_hand u 0 (ap (ticket_in (InHand s)) is ∙ cond-true (r.0 == s) (Some 0) None (eq-eqb r.0 s e))
  by (place.Next r) is e = no_next u 0 (ap (ticket_in (InNext s)) is ∙ cond-true (r.0 == s) (Some 0) None (eq-eqb r.0 s e))
  by (place.Tray r t) is e = no_tray u t (ap (ticket_in (InTray s)) is ∙ cond-true (r.0 == s) (Some t) None (eq-eqb r.0 s e))
  by place.Unborn is e = e
  by (place.Pool p t) is e = e
  by (place.Frame r d) is e = e
  by (place.Blocked b t) is e = e
  by (place.Ended c) is e = e

pub keeps-take : (W : Parts) (Z : Stored) (S : State) (s p u : ℕ) → IsValid W → OrdersStored W Z.orders → Sound W Z S → s < W.streams → May W Z S s (what.Take (pool_no p) (unit_no u)) →
    Keeps W Z S (change W S s (what.Take (pool_no p) (unit_no u)))
keeps-take W Z S s p u valid stored sound l may =
    let c : Change = change W S s (what.Take (pool_no p) (unit_no u)) in
    let own : Stream = S.stream s in
    let is : StandsIn W S (InPool p) u = front-stands W S s p u may.1 in
    let rests : IsAtRest (round_taken own) = fresh-rest own.top.sched (suc own.top.round) own.below (sound.below_rest s l) in
    keeps-event W Z S sound ((u, place.Next (stream_no s)) ∷ []) [] [] [] ((s, round_taken own) ∷ [])
    (free-empty S.place u (place.Next (stream_no s)) (InNext s) 0 (same-self s 0) (due-no_next W S s sound.undeclared RoundDue may.0 tt), tt) (
      record {
        declared = is.declared;
        placed = (l, subst IsAtRest (sym (put_at-same S.stream s (round_taken own))) rests);
        alone = empty-still S c (InHand s) ((λ e. cc), tt) (due-no_hand W S s sound.undeclared RoundDue may.0 tt);
        joined = inl refl;
      },
      tt,
    )
    (tt, tt) ((off-in W S (InPool p) u is.ticket tt is.at, tt), tt) tt tt tt
    (frames-stay W Z S c sound (frameless-in S (InPool p) u is.ticket tt is.at, tt)
    (record { below = refl; sched = refl; rest = λ v at h. rests; under_way = λ k. next-under_way W Z own.top (suc own.top.round) false valid stored (sound.under_way s l).0 }, tt))

missed-sched : (W : Parts) (f : Frame) (p : ℕ) → (frame_missed W f p).sched ≡ f.sched
missed-sched W f p =
    cond_both (length (pools_of W f.sched) == suc (length f.seen)) (frame_at f.sched (suc f.round) true) (record { sched = f.sched; round = f.round; seen = f.seen ++ p ∷ []; empty = false }) (λ (g : Frame). g.sched ≡ f.sched) (λ _. refl) (λ _. refl)

pub keeps-miss : (W : Parts) (Z : Stored) (S : State) (s p : ℕ) → IsValid W → OrdersStored W Z.orders → Sound W Z S → s < W.streams → May W Z S s (what.Miss (pool_no p)) → Keeps W Z S
    (change W S s (what.Miss (pool_no p)))
keeps-miss W Z S s p valid stored sound l may =
    let c : Change = change W S s (what.Miss (pool_no p)) in
    let own : Stream = S.stream s in
    let idle : (u : ℕ) → OnStream s (S.place u) → ⊥ =
    off-stream S s (due-no_tray W S s sound.undeclared RoundDue may.0 tt) (due-no_next W S s sound.undeclared RoundDue may.0 tt) (due-no_hand W S s sound.undeclared RoundDue may.0 tt) in
    keeps-event W Z S sound [] [] [] [] ((s, round_missed W p own) ∷ [])
    tt
    tt
    tt tt tt tt tt
    (frames-stay W Z S c sound tt
    (record { below = refl; sched = missed-sched W own.top p; rest = λ v at h. absurd (idle v at); under_way = λ k. missed-under_way W Z own.top p valid stored (sound.under_way s l).0 may.2 }, tt))
