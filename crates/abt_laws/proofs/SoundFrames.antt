-- Events that leave the stacked frames as they are.
use Rattle.std.proofs.Common.{◌≡◌, ℕ, zero, suc, ◌<◌, ◌-◌, List, [], ◌∷◌, length, slice_get, Some, refl, sym, ◌∙◌, subst}
use Rattle.std.specs.Prelude.{IfSome}
use Rattle.abt_machine.specs.declared.events.Place.{Place}
use Rattle.abt_machine.specs.declared.events.Place.TheVariants as place
use Rattle.abt_machine.specs.declared.operations.Body.{Body}
use Rattle.abt_machine.specs.declared.operations.Body.TheVariants as body
use Rattle.abt_machine.specs.Stored.{Stored}
use Rattle.abt_machine.specs.declared.workload.Parts.{Parts}
use Rattle.abt_machine.specs.Numbers.{stream_no}
use Rattle.abt_machine.specs.Maps.{put_all}
use Rattle.abt_machine.specs.Workloads.{body_at, main_of}
use Rattle.abt_machine.specs.Queues.{last}
use Rattle.abt_machine.specs.State.{State, Stream, Frame}
use Rattle.abt_machine.specs.Changes.{Change, changed}
use Rattle.abt_machine.specs.Sound.{Sound, IsPlaced, IsAtRest, IsUnderWay, AllUnderWay, AllAtRest, RunsSched, frames_of}
use Rattle.abt_laws.proofs.Lists.{EachOf}
use Rattle.abt_laws.proofs.Maps.{EachOf-key, put_all-other, put_all-kept}
use Rattle.abt_laws.proofs.SoundChanges.{places, OnStream, FramesKeep}

-- the unit is in no frame
abbrev pub IsFrameless : State → ℕ → Type 0
IsFrameless S u = (r d : ℕ) → S.place u ≡ place.Frame (stream_no r) d → ⊥

-- stream s has the frames that it had, at the top in another round at most
pub record FramesGoOn (W : Parts) (Z : Stored) (S : State) (c : Change) (s : ℕ) (own : Stream) : Type 0 where
  pub below : own.below ≡ (S.stream s).below
  pub sched : own.top.sched ≡ (S.stream s).top.sched
  pub rest : (u : ℕ) → OnStream s (places S c u) → IsAtRest (S.stream s) → IsAtRest own
  pub under_way : s < W.streams → IsUnderWay W Z.orders own.top

runs-same : (b : Body) (f g : Frame) → g.sched ≡ f.sched → RunsSched b (Some f) → RunsSched b (Some g)
runs-same (body.Sched n) f g e h = e ∙ h
runs-same (body.Ult ops) f g e h = h
runs-same (body.Task ops) f g e h = h

runs-frame : (b : Body) (f g : Frame) (fs : List Frame) (i : ℕ) → g.sched ≡ f.sched → RunsSched b (slice_get (f ∷ fs) i) → RunsSched b (slice_get (g ∷ fs) i)
runs-frame b f g fs zero e h = runs-same b f g e h
runs-frame b f g fs (suc i) e h = h

lowest-same : (f g : Frame) (fs : List Frame) (n : ℕ) → g.sched ≡ f.sched → IfSome (last (f ∷ fs)) (λ h. h.sched ≡ n) → IfSome (last (g ∷ fs)) (λ h. h.sched ≡ n)
lowest-same f g [] n e h = e ∙ h
lowest-same f g (k ∷ fs) n e h = h

module _ (W : Parts) (Z : Stored) (S : State) (c : Change) (sound : Sound W Z S) (on : (s : ℕ) → FramesGoOn W Z S c s (put_all S.stream c.streams s)) where
  held : (u s d : ℕ) → IsPlaced W S u (place.Frame (stream_no s) d) → IsPlaced W (changed S c) u (place.Frame (stream_no s) d)
  held u s d h =
      let own : Stream = put_all S.stream c.streams s in
      let old : Stream = S.stream s in (
        h.0,
        subst (λ (fs : List Frame). d < length fs) (sym (on s).below) h.1,
        subst (λ (fs : List Frame). RunsSched (body_at W u) (slice_get (own.top ∷ fs) ((length fs - 1) - d))) (sym (on s).below)
            (runs-frame (body_at W u) old.top own.top old.below ((length old.below - 1) - d) (on s).sched h.2),
      )

  lowest : (s : ℕ) → s < W.streams → IfSome (last (frames_of (put_all S.stream c.streams s))) (λ f. f.sched ≡ main_of W s)
  lowest s l =
      let own : Stream = put_all S.stream c.streams s in
      subst (λ (fs : List Frame). IfSome (last (own.top ∷ fs)) (λ f. f.sched ≡ main_of W s)) (sym (on s).below)
      (lowest-same (S.stream s).top own.top (S.stream s).below (main_of W s) (on s).sched (sound.lowest s l))

  -- if no unit leaves a frame
  frames-go_on : EachOf (λ (m : ℕ × Place). IsFrameless S m.0) c.moves → FramesKeep W Z S (changed S c)
  frames-go_on frameless = record {
    held = λ u s d was is. held u s d (subst (IsPlaced W S u) was (sound.placed u));
    hold = λ s d l.
        let old : (u : ℕ) × (S.place u ≡ place.Frame (stream_no s) d) = sound.frames_hold s d (subst (λ (fs : List Frame). d < length fs) (on s).below l) in
        (old.0, put_all-other S.place c.moves old.0 (λ k. EachOf-key (IsFrameless S) c.moves old.0 frameless k s d old.1) ∙ old.1);
    rest = λ u s at h. (on s).rest u at h;
    lowest = lowest;
    under_way = λ s l. ((on s).under_way l, subst (AllUnderWay W Z.orders) (sym (on s).below) (sound.under_way s l).1);
    below_rest = λ s l. subst AllAtRest (sym (on s).below) (sound.below_rest s l);
  }

-- if no unit leaves a frame and streams go on, the frames stay
pub frames-stay : (W : Parts) (Z : Stored) (S : State) (c : Change) → Sound W Z S → EachOf (λ (m : ℕ × Place). IsFrameless S m.0) c.moves →
    EachOf (λ (m : ℕ × Stream). FramesGoOn W Z S c m.0 m.1) c.streams → FramesKeep W Z S (changed S c)
frames-stay W Z S c sound frameless goes =
    frames-go_on W Z S c sound (λ s. put_all-kept (λ r own. FramesGoOn W Z S c r own) S.stream c.streams s goes
    (record { below = refl; sched = refl; rest = λ u at h. h; under_way = λ l. (sound.under_way s l).0 })) frameless
