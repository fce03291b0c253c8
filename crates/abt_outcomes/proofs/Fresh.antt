-- A stream's events but misses leave it at a round that has seen no pool.
use Rattle.std.proofs.Common.{◌≡◌, ℕ, ◌<◌, Bool, true, false, List, [], ◌∷◌, Option, Some, None, ap, ◌∙◌, subst}
use Rattle.abt_machine.specs.declared.events.Place.{Place}
use Rattle.abt_machine.specs.declared.events.Place.TheVariants as place
use Rattle.abt_machine.specs.declared.events.What.{What}
use Rattle.abt_machine.specs.declared.events.What.TheVariants as what
use Rattle.abt_machine.specs.Stored.{Stored}
use Rattle.abt_machine.specs.declared.workload.Parts.{Parts}
use Rattle.abt_machine.specs.Numbers.{stream_no}
use Rattle.abt_machine.specs.Maps.{put_all}
use Rattle.abt_machine.specs.Workloads.{body_at}
use Rattle.abt_machine.specs.Queues.{first}
use Rattle.abt_machine.specs.State.{State, Stream, Frame, Plain, Asked}
use Rattle.abt_machine.specs.Lines.{InTray, standing}
use Rattle.abt_machine.specs.Frames.{entered, left, left_to, marked, round_taken, sched_of}
use Rattle.abt_machine.specs.Events.{May, after, look_row}
use Rattle.abt_machine.specs.Sound.{Sound, AllAtRest, IsAtRest, IsPlaced}
use Rattle.abt_laws.specs.Laws.{IsMiss}
use Rattle.abt_laws.proofs.Dues.{leave-below}
use Rattle.abt_laws.proofs.Maps.{put_at-same}
use Rattle.abt_laws.proofs.StepStreams.{step-keeps-frames}
use Rattle.abt_laws.proofs.Standing.{StandsIn, first-stands, hand-place, next-place}

-- Streams that hold a unit.

head-fresh : (f : Frame) (fs : List Frame) → AllAtRest (f ∷ fs) → f.seen ≡ []
head-fresh f [] rest = rest
head-fresh f (g ∷ fs) rest = rest.0

placed-at : (W : Parts) (Z : Stored) (S : State) (u : ℕ) (at : Place) → Sound W Z S → S.place u ≡ at → IsPlaced W S u at
placed-at W Z S u at sound is = subst (IsPlaced W S u) is (sound.placed u)

rest-fresh : (own : Stream) → IsAtRest own → own.top.seen ≡ []
rest-fresh own rest = head-fresh own.top own.below rest

pub hand-fresh : (W : Parts) (Z : Stored) (S : State) (s u : ℕ) → Sound W Z S → S.place u ≡ place.Hand (stream_no s) → (S.stream s).top.seen ≡ []
hand-fresh W Z S s u sound at = rest-fresh (S.stream s) (placed-at W Z S u (place.Hand (stream_no s)) sound at).1

next-fresh : (W : Parts) (Z : Stored) (S : State) (s u : ℕ) → Sound W Z S → S.place u ≡ place.Next (stream_no s) → (S.stream s).top.seen ≡ []
next-fresh W Z S s u sound at = rest-fresh (S.stream s) (placed-at W Z S u (place.Next (stream_no s)) sound at).1

tray-fresh : (W : Parts) (Z : Stored) (S : State) (s u : ℕ) → Sound W Z S → first (standing W S (InTray s)) ≡ Some u → (S.stream s).top.seen ≡ []
tray-fresh W Z S s u sound e =
    let is : StandsIn W S (InTray s) u = first-stands W S (InTray s) u e in
    rest-fresh (S.stream s) (placed-at W Z S u (place.Tray (stream_no s) is.ticket) sound is.at).1

-- Events.

look-fresh : (W : Parts) (S : State) (s u : ℕ) (cancel : Bool) (migrate : Option ℕ) → (S.stream s).top.seen ≡ [] → (put_all S.stream (look_row W S s u cancel migrate).streams s).top.seen ≡ []
look-fresh W S s u true migrate fresh = ap (λ (own : Stream). own.top.seen) (put_at-same S.stream s (marked Asked (S.stream s))) ∙ fresh
look-fresh W S s u false (Some p) fresh = fresh
look-fresh W S s u false None fresh = ap (λ (own : Stream). own.top.seen) (put_at-same S.stream s (marked Plain (S.stream s))) ∙ fresh

left-fresh : (own : Stream) (f : Frame) (fs : List Frame) → own.below ≡ f ∷ fs → AllAtRest own.below → (left own).top.seen ≡ []
left-fresh own f fs below rest = ap (λ gs. (left_to own gs).top.seen) below ∙ head-fresh f fs (subst AllAtRest below rest)

-- after an event of stream s that is no miss its round has seen no pool
pub others-fresh : (W : Parts) (Z : Stored) (S : State) (s : ℕ) (w : What) → s < W.streams → Sound W Z S → May W Z S s w → (IsMiss w → ⊥) → ((after W S s w).stream s).top.seen ≡ []
others-fresh W Z S s (what.Miss p) declared sound may other = absurd (other tt)
others-fresh W Z S s (what.Take p u) declared sound may other = ap (λ (own : Stream). own.top.seen) (put_at-same S.stream s (round_taken (S.stream s)))
others-fresh W Z S s (what.Look u) declared sound may other = look-fresh W S s u.0 (S.desk u.0).cancel (S.desk u.0).migrate (next-fresh W Z S s u.0 sound (next-place W S s u.0 may.1))
others-fresh W Z S s (what.Step u k c) declared sound may other =
    ap (λ (f : Frame). f.seen) (step-keeps-frames W S s u.0 k c s).0 ∙ hand-fresh W Z S s u.0 sound (hand-place W S s u.0 may.1)
others-fresh W Z S s (what.Call u k n) declared sound may other = hand-fresh W Z S s u.0 sound (hand-place W S s u.0 may.1)
others-fresh W Z S s (what.Put u p) declared sound may other = tray-fresh W Z S s u.0 sound may.1
others-fresh W Z S s (what.End u c) declared sound may other = hand-fresh W Z S s u.0 sound (hand-place W S s u.0 may.1)
others-fresh W Z S s (what.Enter u) declared sound may other = ap (λ (own : Stream). own.top.seen) (put_at-same S.stream s (entered (sched_of (body_at W u.0)) (S.stream s)))
others-fresh W Z S s (what.Leave u) declared sound may other =
    let is : (f : Frame) × (fs : List Frame) × ((S.stream s).below ≡ f ∷ fs) = leave-below W S s may.0 in
    ap (λ (own : Stream). own.top.seen) (put_at-same S.stream s (left (S.stream s))) ∙ left-fresh (S.stream s) is.0 is.1 is.2 (sound.below_rest s declared)
