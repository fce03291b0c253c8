-- States in which nothing is left to do.
use Rattle.std.proofs.Common.{◌≡◌, ℕ, ◌<◌, Bool, true, false, List, [], ◌∷◌, length, Some, None, Contains, refl, sym, ◌∙◌, ap, subst, arith, inl, inr}
use Rattle.std.proofs.lemmas.Bool.{cases_eq}
use Rattle.std.specs.Prelude.{IfSome, option_map}
use Rattle.abt_machine.specs.declared.events.Event.{Event}
use Rattle.abt_machine.specs.declared.events.Place.{Place}
use Rattle.abt_machine.specs.declared.events.Place.TheVariants as place
use Rattle.abt_machine.specs.declared.events.What.{What}
use Rattle.abt_machine.specs.declared.events.What.TheVariants as what
use Rattle.abt_machine.specs.declared.operations.Kind.{Kind}
use Rattle.abt_machine.specs.declared.operations.Kind.TheVariants as kind
use Rattle.abt_machine.specs.Stored.{Stored}
use Rattle.abt_machine.specs.declared.workload.Parts.{Parts}
use Rattle.abt_machine.specs.Numbers.{stream_no}
use Rattle.abt_machine.specs.Maps.{put_at}
use Rattle.abt_machine.specs.Workloads.{kind_of, main_of, pools_of}
use Rattle.abt_machine.specs.Queues.{first, last}
use Rattle.abt_machine.specs.State.{State, Stream, Frame}
use Rattle.abt_machine.specs.Lines.{Line, InPool, InTray, InHand, InNext, ticket_in, standing, hand, next}
use Rattle.abt_machine.specs.Next.{StepDue, LeaveDue, at_position, due, due_by, due_by_hand, due_by_next, due_of_frames}
use Rattle.abt_machine.specs.Fronts.{at_end, front, owns, side_by}
use Rattle.abt_machine.specs.Rounds.{IsNextPool}
use Rattle.abt_machine.specs.Events.{After, May, after}
use Rattle.abt_machine.specs.Runs.{last_state}
use Rattle.abt_machine.specs.Sound.{Sound}
use Rattle.abt_machine.specs.Outcomes.{AllEnded, IsOver, Quiet, Spent}
use Rattle.abt_laws.specs.Laws.{IsMiss}
use Rattle.abt_laws.proofs.Orders.{next_pool-listed}
use Rattle.abt_laws.proofs.Standing.{empty-standing}
use Rattle.abt_laws.proofs.Options.{none≢some}
use Rattle.abt_laws.proofs.Maps.{put_at-other, put_at-same}

-- If all units are over.

over-in-no-line : (l : Line) (at : Place) → IsOver at → ticket_in l at ≡ None
over-in-no-line (InPool p) place.Unborn over = refl
over-in-no-line _ place.Unborn over = refl
over-in-no-line (InPool p) (place.Ended c) over = refl
over-in-no-line _ (place.Ended c) over = refl
over-in-no-line _ _ over = absurd over

all-over-stand-nowhere : (W : Parts) (S : State) (l : Line) → AllEnded S → standing W S l ≡ []
all-over-stand-nowhere W S l ended = empty-standing W S l (λ v t h. none≢some (sym (over-in-no-line l (S.place v) (ended v)) ∙ h))

all-over-no-frame : (W : Parts) (Z : Stored) (S : State) (s : ℕ) → Sound W Z S → AllEnded S → (fs : List Frame) → (S.stream s).below ≡ fs → fs ≡ []
all-over-no-frame W Z S s sound ended [] e = refl
all-over-no-frame W Z S s sound ended (f ∷ fs) e =
    let some : 0 < length (S.stream s).below = subst (λ (gs : List Frame). 0 < length gs) (sym e) (omega arith) in
    let held : (u : ℕ) × (S.place u ≡ place.Frame (stream_no s) 0) = sound.frames_hold s 0 some in
    let over : IsOver (place.Frame (stream_no s) 0) = subst IsOver held.1 (ended held.0) in
    absurd over

pub ended-quiet : (W : Parts) (Z : Stored) (S : State) → Sound W Z S → AllEnded S → Quiet W S
ended-quiet W Z S sound ended = record {
  trays = λ s _. all-over-stand-nowhere W S (InTray s) ended;
  nexts = λ s _. all-over-stand-nowhere W S (InNext s) ended;
  hands = λ s _. all-over-stand-nowhere W S (InHand s) ended;
  frames = λ s _. all-over-no-frame W Z S s sound ended (S.stream s).below refl;
  pools = λ s p _ _. all-over-stand-nowhere W S (InPool p) ended;
}

-- What a stream does in a quiet state.

-- nothing but a round is due
quiet-due : (W : Parts) (S : State) (s : ℕ) → s < W.streams → Quiet W S → due W S s ≡ due_of_frames (S.stream s).top.empty []
quiet-due W S s declared quiet =
    ap (λ us. due_by W s (S.stream s) us (next W S s) (option_map (at_position S) (hand W S s))) (quiet.trays s declared)
    ∙ ap (λ us. due_by_next W s (S.stream s) (first us) (option_map (at_position S) (hand W S s))) (quiet.nexts s declared)
    ∙ ap (λ us. due_by_hand W s (S.stream s) (option_map (at_position S) (first us))) (quiet.hands s declared)
    ∙ ap (due_of_frames (S.stream s).top.empty) (quiet.frames s declared)

no-step : (empty : Bool) → due_of_frames empty [] ≡ StepDue → ⊥
no-step true e = cc
no-step false e = cc

no-leave : (empty : Bool) → due_of_frames empty [] ≡ LeaveDue → ⊥
no-leave true e = cc
no-leave false e = cc

pub spent-not-quiet : (W : Parts) (n s : ℕ) (J : List Event) → Spent W n J s → Quiet W (last_state W J) → ⊥
spent-not-quiet W n s J spent quiet = no-step ((last_state W J).stream s).top.empty (sym (quiet-due W (last_state W J) s spent.0 quiet) ∙ spent.2)

nobody-first : (us : List ℕ) (u : ℕ) → us ≡ [] → first us ≡ Some u → ⊥
nobody-first us u e h = none≢some (ap first (sym e) ∙ h)

nobody-in-front : (k : Kind) (own : Bool) (us : List ℕ) (u : ℕ) → us ≡ [] → at_end (side_by k own) us ≡ Some u → ⊥
nobody-in-front kind.Fifo own us u e h = nobody-first us u e h
nobody-in-front kind.Deque false us u e h = nobody-first us u e h
nobody-in-front kind.Deque true us u e h = none≢some (ap last (sym e) ∙ h)

-- without stacked frames the top frame is the main scheduler's
pub lone-frame-main : (W : Parts) (Z : Stored) (S : State) (s : ℕ) → s < W.streams → Sound W Z S → (S.stream s).below ≡ [] → (S.stream s).top.sched ≡ main_of W s
lone-frame-main W Z S s declared sound alone =
    subst (λ (fs : List Frame). IfSome (last ((S.stream s).top ∷ fs)) (λ (f : Frame). f.sched ≡ main_of W s)) alone (sound.lowest s declared)

quiet-front : (W : Parts) (Z : Stored) (S : State) (s p u : ℕ) → s < W.streams → Sound W Z S → Quiet W S → IsNextPool W Z.orders (S.stream s).top p → front W S s p ≡ Some u → ⊥
quiet-front W Z S s p u declared sound quiet following taken =
    let listed : Contains (pools_of W (main_of W s)) p =
    subst (λ g. Contains (pools_of W g) p) (lone-frame-main W Z S s declared sound (quiet.frames s declared)) (next_pool-listed W Z (S.stream s).top p following) in
    nobody-in-front (kind_of W p) (owns W s p) (standing W S (InPool p)) u (quiet.pools s p declared listed) taken

quiet-misses : (W : Parts) (Z : Stored) (S : State) (s : ℕ) (w : What) → s < W.streams → Sound W Z S → Quiet W S → May W Z S s w → IsMiss w
quiet-misses W Z S s (what.Miss p) declared sound quiet may = tt
quiet-misses W Z S s (what.Take p u) declared sound quiet may = absurd (quiet-front W Z S s p.0 u.0 declared sound quiet may.2 may.1)
quiet-misses W Z S s (what.Look u) declared sound quiet may = absurd (nobody-first (standing W S (InNext s)) u.0 (quiet.nexts s declared) may.1)
quiet-misses W Z S s (what.Step u k c) declared sound quiet may = absurd (nobody-first (standing W S (InHand s)) u.0 (quiet.hands s declared) may.1)
quiet-misses W Z S s (what.Call u k n) declared sound quiet may = absurd (nobody-first (standing W S (InHand s)) u.0 (quiet.hands s declared) may.1)
quiet-misses W Z S s (what.Put u p) declared sound quiet may = absurd (nobody-first (standing W S (InTray s)) u.0 (quiet.trays s declared) may.1)
quiet-misses W Z S s (what.End u c) declared sound quiet may = absurd (nobody-first (standing W S (InHand s)) u.0 (quiet.hands s declared) may.1)
quiet-misses W Z S s (what.Enter u) declared sound quiet may = absurd (nobody-first (standing W S (InHand s)) u.0 (quiet.hands s declared) may.1)
quiet-misses W Z S s (what.Leave u) declared sound quiet may = absurd (no-leave (S.stream s).top.empty (sym (quiet-due W S s declared quiet) ∙ may.0))

-- After a miss.

-- a miss stacks no frame
pub miss-stacks-none : (W : Parts) (S : State) (r s : ℕ) (w : What) → IsMiss w → ((after W S s w).stream r).below ≡ (S.stream r).below
miss-stacks-none W S r s (what.Miss p) miss =
    elim (cases_eq r s) [
      | inl same ↦ ap (λ (own : Stream). own.below) (ap (put_at S.stream s _) same ∙ put_at-same S.stream s _) ∙ ap (λ q. (S.stream q).below) (sym same)
      | inr other ↦ ap (λ (own : Stream). own.below) (put_at-other S.stream s _ r other)
    ]
miss-stacks-none W S r s _ miss = absurd miss

quiet-after : (W : Parts) (S : State) (s : ℕ) (w : What) → IsMiss w → Quiet W S → Quiet W (after W S s w)
quiet-after W S s (what.Miss p) miss quiet = record {
  trays = quiet.trays;
  nexts = quiet.nexts;
  hands = quiet.hands;
  frames = λ r declared. miss-stacks-none W S r s (what.Miss p) miss ∙ quiet.frames r declared;
  pools = quiet.pools;
}
quiet-after W S s _ miss quiet = absurd miss

pub quiet-stays : (W : Parts) (Z : Stored) (S T : State) (e : Event) → Sound W Z S → Quiet W S → After W Z S e T → IsMiss e.what × Quiet W T
quiet-stays W Z S T e sound quiet step =
    let miss : IsMiss e.what = quiet-misses W Z S e.stream.0 e.what step.0 sound quiet step.1 in
    (miss, subst (Quiet W) (sym step.2) (quiet-after W S e.stream.0 e.what miss quiet))
