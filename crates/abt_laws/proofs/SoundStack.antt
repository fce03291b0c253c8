-- An enter and a leave keep a sound state sound: a frame comes on top, or the top one goes.
use Rattle.std.proofs.Common.{◌≡◌, ◌≢◌, ℕ, suc, ◌<◌, ◌-◌, false, List, [], ◌∷◌, length, slice_get, Some, refl, sym, ◌∙◌, ap, subst, arith, inl, inr}
use Rattle.std.specs.Prelude.{IfSome}
use Rattle.std.proofs.lemmas.Bool.{cases_eq}
use Rattle.abt_machine.specs.declared.events.Place.TheVariants as place
use Rattle.abt_machine.specs.declared.events.What.TheVariants as what
use Rattle.abt_machine.specs.declared.numbers.SchedNo.{SchedNo}
use Rattle.abt_machine.specs.declared.operations.Body.{Body}
use Rattle.abt_machine.specs.declared.operations.Body.TheVariants as body
use Rattle.abt_machine.specs.Stored.{Stored}
use Rattle.abt_machine.specs.declared.workload.Parts.{Parts}
use Rattle.abt_machine.specs.Numbers.{stream_no, unit_no}
use Rattle.abt_machine.specs.Maps.{put_at}
use Rattle.abt_machine.specs.Workloads.{body_at, main_of}
use Rattle.abt_machine.specs.Queues.{last}
use Rattle.abt_machine.specs.State.{State, Stream, Frame}
use Rattle.abt_machine.specs.Lines.{InHand, InNext, InFrames, ticket_in}
use Rattle.abt_machine.specs.Next.{EnterDue, LeaveDue, due}
use Rattle.abt_machine.specs.Rounds.{OrdersStored}
use Rattle.abt_machine.specs.Frames.{frame_at, entered, sched_of, left, left_to}
use Rattle.abt_machine.specs.Changes.{Change, changed}
use Rattle.abt_machine.specs.Events.{May, change}
use Rattle.abt_machine.specs.Sound.{Sound, IsPlaced, IsAtRest, AllUnderWay, AllAtRest, RunsSched, frames_of, stacked_frame}
use Rattle.abt_machine.specs.Valid.{IsValid}
use Rattle.abt_machine.proofs.Declared.{sched-declared}
use Rattle.abt_laws.proofs.Locks.{IsOffLocks}
use Rattle.abt_laws.proofs.SoundEvents.{keeps-event}
use Rattle.abt_laws.proofs.Rounds.{fresh-under_way}
use Rattle.abt_laws.proofs.Dues.{due-no_next, due-no_hand, due-unit, enter-due, leave-below}
use Rattle.abt_laws.proofs.Maps.{put_at-same, put_at-other, put_at-cases}
use Rattle.abt_laws.proofs.Places.{same-self, stream-is}
use Rattle.abt_laws.proofs.Arrivals.{IsBelow, free-above, free-empty}
use Rattle.abt_laws.proofs.Standing.{StandsIn, first-stands, is-declared}
use Rattle.abt_laws.proofs.SoundChanges.{Keeps, FramesKeep, OnStream, placed-below}
use Rattle.abt_laws.proofs.SoundRound.{fresh-rest}
use Rattle.abt_laws.proofs.Wakes.{empty-still}

-- a frame below the top one has the same number with and without the top one
stacked-below : (top f : Frame) (fs : List Frame) (d : ℕ) → d < length fs → slice_get (top ∷ f ∷ fs) ((length (f ∷ fs) - 1) - d) ≡ slice_get (f ∷ fs) ((length fs - 1) - d)
stacked-below top f fs d l = let e : (length (f ∷ fs) - 1) - d ≡ suc ((length fs - 1) - d) = omega arith in ap (slice_get (top ∷ f ∷ fs)) e

-- the top one has the number after theirs
stacked-top : (top f : Frame) (fs : List Frame) → slice_get (top ∷ f ∷ fs) ((length (f ∷ fs) - 1) - length fs) ≡ Some top
stacked-top top f fs = let e : (length (f ∷ fs) - 1) - length fs ≡ 0 = omega arith in ap (slice_get (top ∷ f ∷ fs)) e

-- numbers in frames are below the number of stacked frames
frames-below : (W : Parts) (Z : Stored) (S : State) (s : ℕ) → Sound W Z S → IsBelow (InFrames s) (length (S.stream s).below) S.place
frames-below W Z S s sound = placed-below W Z S (InFrames s) (length (S.stream s).below) sound (λ v d k. k.1)

-- what holds of stream s with new frames, and of the others as they were, holds of each afterwards
each-stream : (S : State) (s : ℕ) (own : Stream) (P : ℕ → Stream → Type 0) → P s own → ((r : ℕ) → r ≢ s → P r (S.stream r)) → (r : ℕ) → P r (put_at S.stream s own r)
each-stream S s own P new old r =
    elim (put_at-cases S.stream s own r) [
      | inl x ↦ subst (P r) (sym x.1) (subst (λ k. P k own) (sym x.0) new)
      | inr x ↦ subst (P r) (sym x.1) (old r x.0)
    ]

-- unit u is in frame d of stream r, as own has it
abbrev IsFramed : Parts → ℕ → ℕ → ℕ → Stream → Type 0
IsFramed W u r d own = (r < W.streams) × (d < length own.below) × RunsSched (body_at W u) (stacked_frame own d)

-- Enter: unit u, in the hand of s, is scheduler g.

runs-entered : (b : Body) (g : SchedNo) → b ≡ body.Sched g → RunsSched b (Some (frame_at (sched_of b) 0 false))
runs-entered b g is = subst (λ (k : Body). RunsSched k (Some (frame_at (sched_of k) 0 false))) (sym is) refl

module _ (W : Parts) (Z : Stored) (S : State) (s u : ℕ) (g : SchedNo) (valid : IsValid W) (stored : OrdersStored W Z.orders) (sound : Sound W Z S) (at : S.place u ≡ place.Hand (stream_no s))
    (is : body_at W u ≡ body.Sched g) where
  abbrev old_top : Frame
  old_top = (S.stream s).top

  abbrev old_below : List Frame
  old_below = (S.stream s).below

  abbrev new_top : Frame
  new_top = frame_at (sched_of (body_at W u)) 0 false

  -- stream s with the new frame
  abbrev new_own : Stream
  new_own = entered (sched_of (body_at W u)) (S.stream s)

  abbrev enters : Change
  enters = change W S s (what.Enter (unit_no u))

  in-hand : IsPlaced W S u (place.Hand (stream_no s))
  in-hand = subst (IsPlaced W S u) at (sound.placed u)

  stays-framed : (r v d : ℕ) → S.place v ≡ place.Frame (stream_no r) d → put_at S.place u (place.Frame (stream_no s) (length old_below)) v ≡ place.Frame (stream_no r) d
  stays-framed r v d h =
      put_at-other S.place u (place.Frame (stream_no s) (length old_below)) v (λ e. let k : place.Hand (stream_no s) ≡ place.Frame (stream_no r) d = sym at ∙ (ap S.place (sym e) ∙ h) in cc) ∙ h

  -- the new frame is that of u
  is-framed : s < W.streams → IsFramed W u s (length old_below) new_own
  is-framed l = (l, omega arith, subst (RunsSched (body_at W u)) (sym (stacked-top new_top old_top old_below)) (runs-entered (body_at W u) g is))

  frames-enter : FramesKeep W Z S (changed S enters)
  frames-enter = record {
    held = λ v r d was still. each-stream S s new_own (λ r own. (v d : ℕ) → IsFramed W v r d (S.stream r) → IsFramed W v r d own)
        (λ v d h. let l : d < length old_below = h.1 in (h.0, omega arith, subst (RunsSched (body_at W v)) (sym (stacked-below new_top old_top old_below d l)) h.2))
        (λ r ne v d h. h) r v d (subst (IsPlaced W S v) was (sound.placed v));
    hold = each-stream S s new_own (λ r own. (d : ℕ) → d < length own.below → (v : ℕ) × (put_at S.place u (place.Frame (stream_no s) (length old_below)) v ≡ place.Frame (stream_no r) d))
        (λ d l. elim (cases_eq d (length old_below)) [
          | inl same ↦ (u, put_at-same S.place u (place.Frame (stream_no s) (length old_below)) ∙ ap (λ (n : ℕ). place.Frame (stream_no s) n) (sym same))
          | inr other ↦ (let old : (v : ℕ) × (S.place v ≡ place.Frame (stream_no s) d) = sound.frames_hold s d (omega arith) in (old.0, stays-framed s old.0 d old.1))
        ])
        (λ r ne d l. let old : (v : ℕ) × (S.place v ≡ place.Frame (stream_no r) d) = sound.frames_hold r d l in (old.0, stays-framed r old.0 d old.1));
    rest = λ v. each-stream S s new_own (λ r own. OnStream r (put_at S.place u (place.Frame (stream_no s) (length old_below)) v) → IsAtRest (S.stream r) → IsAtRest own)
        (λ k h. fresh-rest (sched_of (body_at W u)) 0 (old_top ∷ old_below) h) (λ r ne k h. h);
    lowest = each-stream S s new_own (λ r own. r < W.streams → IfSome (last (frames_of own)) (λ f. f.sched ≡ main_of W r)) (sound.lowest s) (λ r ne. sound.lowest r);
    under_way = each-stream S s new_own (λ r own. r < W.streams → AllUnderWay W Z.orders (frames_of own))
        (λ l. (fresh-under_way W Z (sched_of (body_at W u)) 0 false valid stored (subst (λ b. sched_of b < length W.scheds) (sym is) (sched-declared W u g valid is)), sound.under_way s l)) (λ r ne. sound.under_way r);
    below_rest = each-stream S s new_own (λ r own. r < W.streams → AllAtRest own.below) (λ l. in-hand.1) (λ r ne. sound.below_rest r);
  }

  keeps-enter_of : s < W.streams → u < length W.units → Keeps W Z S enters
  keeps-enter_of l declared = keeps-event W Z S sound ((u, place.Frame (stream_no s) (length old_below)) ∷ []) [] [] [] ((s, new_own) ∷ [])
      (free-above S.place u (place.Frame (stream_no s) (length old_below)) (InFrames s) (length old_below) (same-self s (length old_below)) (frames-below W Z S s sound), tt)
      (record { declared = declared; placed = subst (IsFramed W u s (length old_below)) (sym (put_at-same S.stream s new_own)) (is-framed l); alone = tt; joined = inl refl }, tt)
      (tt, tt) ((subst (IsOffLocks W) (sym at) tt, tt), tt) tt tt tt
      (frames-enter)

pub keeps-enter : (W : Parts) (Z : Stored) (S : State) (s u : ℕ) → IsValid W → OrdersStored W Z.orders → Sound W Z S → s < W.streams → May W Z S s (what.Enter (unit_no u)) → Keeps W Z S
    (change W S s (what.Enter (unit_no u)))
keeps-enter W Z S s u valid stored sound l may =
    let is : StandsIn W S (InHand s) u = first-stands W S (InHand s) u may.1 in
    let sched : (g : SchedNo) × (body_at W u ≡ body.Sched g) = (enter-due W s (S.stream s).mark (body_at W u) (S.carried u).position (due-unit W S s EnterDue u may.0 tt may.1)).1 in
    keeps-enter_of W Z S s u sched.0 valid stored sound is.at sched.1 l is.declared

-- Leave: unit u is in the top frame of s, above frames f and fs.

AllAtRest-tail : (f : Frame) (fs : List Frame) → AllAtRest (f ∷ fs) → AllAtRest fs
AllAtRest-tail f [] h = tt
AllAtRest-tail f (g ∷ fs) h = h.2

module _ (W : Parts) (Z : Stored) (S : State) (s u : ℕ) (f : Frame) (fs : List Frame) (sound : Sound W Z S) (below : (S.stream s).below ≡ f ∷ fs)
    (at : S.place u ≡ place.Frame (stream_no s) ((length (S.stream s).below) - 1)) where
  abbrev leaves : Change
  leaves = change W S s (what.Leave (unit_no u))

  -- its number is that of the frames left
  was : S.place u ≡ place.Frame (stream_no s) (length fs)
  was = let e : (length (S.stream s).below) - 1 ≡ length fs = ap (λ (gs : List Frame). length gs - 1) below ∙ omega arith in at ∙ ap (λ (n : ℕ). place.Frame (stream_no s) n) e

  is-left : left_to (S.stream s) (f ∷ fs) ≡ left (S.stream s)
  is-left = ap (left_to (S.stream s)) (sym below)

  -- what holds of s without its top frame, and of the others as they were, holds of each afterwards
  after-left : (P : ℕ → Stream → Type 0) → P s (left_to (S.stream s) (f ∷ fs)) → ((r : ℕ) → r ≢ s → P r (S.stream r)) → (r : ℕ) → P r (put_at S.stream s (left (S.stream s)) r)
  after-left P new old = each-stream S s (left (S.stream s)) P (subst (P s) is-left new) old

  -- who stays in a frame of s is below the top one
  is-lower : (v d : ℕ) → S.place v ≡ place.Frame (stream_no s) d → v ≢ u → d < length fs
  is-lower v d h differs =
      let l : d < length (S.stream s).below = frames-below W Z S s sound v d (ap (ticket_in (InFrames s)) h ∙ same-self s d) in
      let k : length (S.stream s).below ≡ suc (length fs) = ap (λ (gs : List Frame). length gs) below in
      elim (cases_eq d (length fs)) [
        | inl same ↦ absurd (differs (sound.one_each (InFrames s) v u d (ap (ticket_in (InFrames s)) h ∙ same-self s d) (ap (ticket_in (InFrames s)) (was ∙ ap (λ (n : ℕ). place.Frame (stream_no s) n) (sym same)) ∙ same-self s d)))
        | inr other ↦ omega arith
      ]

  stays-put : (r v d : ℕ) → S.place v ≡ place.Frame (stream_no r) d → v ≢ u → put_at S.place u (place.Hand (stream_no s)) v ≡ place.Frame (stream_no r) d
  stays-put r v d h differs = put_at-other S.place u (place.Hand (stream_no s)) v differs ∙ h

  not-u : (r v d : ℕ) → put_at S.place u (place.Hand (stream_no s)) v ≡ place.Frame (stream_no r) d → v ≢ u
  not-u r v d h e = let k : place.Hand (stream_no s) ≡ place.Frame (stream_no r) d = sym (ap (put_at S.place u (place.Hand (stream_no s))) e ∙ put_at-same S.place u (place.Hand (stream_no s))) ∙ h in cc

  lower-framed : (v d : ℕ) → d < length fs → IsFramed W v s d (S.stream s) → IsFramed W v s d (left_to (S.stream s) (f ∷ fs))
  lower-framed v d l h =
      let k : RunsSched (body_at W v) (slice_get ((S.stream s).top ∷ f ∷ fs) ((length (f ∷ fs) - 1) - d)) =
      subst (λ (gs : List Frame). RunsSched (body_at W v) (slice_get ((S.stream s).top ∷ gs) ((length gs - 1) - d))) below h.2 in
      (h.0, l, subst (RunsSched (body_at W v)) (stacked-below (S.stream s).top f fs d l) k)

  frames-leave : FramesKeep W Z S (changed S leaves)
  frames-leave = record {
    held = λ v r d is still. after-left (λ r own. (d : ℕ) → S.place v ≡ place.Frame (stream_no r) d → v ≢ u → IsFramed W v r d own)
        (λ d h differs. lower-framed v d (is-lower v d h differs) (subst (IsPlaced W S v) h (sound.placed v)))
        (λ r ne d h differs. subst (IsPlaced W S v) h (sound.placed v)) r d is (not-u r v d still);
    hold = after-left (λ r own. (d : ℕ) → d < length own.below → (v : ℕ) × (put_at S.place u (place.Hand (stream_no s)) v ≡ place.Frame (stream_no r) d))
        (λ d l. let k : length (S.stream s).below ≡ suc (length fs) = ap (λ (gs : List Frame). length gs) below in
        let old : (v : ℕ) × (S.place v ≡ place.Frame (stream_no s) d) = sound.frames_hold s d (omega arith) in
        (old.0, stays-put s old.0 d old.1 (λ e. let q : place.Frame (stream_no s) d ≡ place.Frame (stream_no s) (length fs) = sym old.1 ∙ (ap S.place e ∙ was) in let n : d ≡ length fs = cc in omega arith)))
        (λ r ne d l. let old : (v : ℕ) × (S.place v ≡ place.Frame (stream_no r) d) = sound.frames_hold r d l in
        (old.0, stays-put r old.0 d old.1 (λ e. let q : place.Frame (stream_no r) d ≡ place.Frame (stream_no s) (length fs) = sym old.1 ∙ (ap S.place e ∙ was) in let n : stream_no r ≡ stream_no s = cc in ne (stream-is r s n))));
    rest = λ v. after-left (λ r own. OnStream r (put_at S.place u (place.Hand (stream_no s)) v) → IsAtRest (S.stream r) → IsAtRest own)
        (λ k h. AllAtRest-tail (S.stream s).top (f ∷ fs) (subst (λ (gs : List Frame). AllAtRest ((S.stream s).top ∷ gs)) below h)) (λ r ne k h. h);
    lowest = after-left (λ r own. r < W.streams → IfSome (last (frames_of own)) (λ f. f.sched ≡ main_of W r)) (λ l. subst (λ (gs : List Frame). IfSome (last ((S.stream s).top ∷ gs)) (λ f. f.sched ≡ main_of W s)) below (sound.lowest s l)) (λ r ne. sound.lowest r);
    under_way = after-left (λ r own. r < W.streams → AllUnderWay W Z.orders (frames_of own)) (λ l. subst (AllUnderWay W Z.orders) below (sound.under_way s l).1) (λ r ne. sound.under_way r);
    below_rest = after-left (λ r own. r < W.streams → AllAtRest own.below) (λ l. AllAtRest-tail f fs (subst AllAtRest below (sound.below_rest s l))) (λ r ne. sound.below_rest r);
  }

  keeps-leave_of : s < W.streams → due W S s ≡ LeaveDue → u < length W.units → Keeps W Z S leaves
  keeps-leave_of l is declared = keeps-event W Z S sound ((u, place.Hand (stream_no s)) ∷ []) [] [] [] ((s, left (S.stream s)) ∷ [])
      (free-empty S.place u (place.Hand (stream_no s)) (InHand s) 0 (same-self s 0) (due-no_hand W S s sound.undeclared LeaveDue is tt), tt) (
        record {
          declared = declared;
          placed = (l, after-left (λ r own. r ≡ s → IsAtRest own) (λ e. subst AllAtRest below (sound.below_rest s l)) (λ r ne e. absurd (ne e)) s refl);
          alone = empty-still S leaves (InNext s) ((λ e. cc), tt) (due-no_next W S s sound.undeclared LeaveDue is tt);
          joined = inl refl;
        },
        tt,
      )
      (tt, tt) ((subst (IsOffLocks W) (sym at) tt, tt), tt) tt tt tt
      (frames-leave)

pub keeps-leave : (W : Parts) (Z : Stored) (S : State) (s u : ℕ) → Sound W Z S → s < W.streams → May W Z S s (what.Leave (unit_no u)) → Keeps W Z S (change W S s (what.Leave (unit_no u)))
keeps-leave W Z S s u sound l may =
    let is : (f : Frame) × (fs : List Frame) × ((S.stream s).below ≡ f ∷ fs) = leave-below W S s may.0 in
    keeps-leave_of W Z S s u is.0 is.1 sound is.2 may.1 l may.0 (is-declared W S sound.undeclared u (place.Frame (stream_no s) (length (S.stream s).below - 1)) may.1 (λ e. cc))
