-- Streams whose numbers of rounds are forgotten.
use mathlib.Core.Path.{fun_ext}
use Rattle.std.proofs.Common.{◌≡◌, ℕ, suc, ◌==◌, if◌then◌else◌, Bool, true, false, List, [], ◌∷◌, ◌++◌, length, map, Option, Some, None, refl, ap, ◌∙◌}
use Rattle.abt_machine.specs.declared.workload.Parts.{Parts}
use Rattle.abt_machine.specs.Frames.{entered, frame_at, left, left_to, marked, round_missed, round_taken}
use Rattle.abt_machine.specs.Maps.{put_all, put_at}
use Rattle.abt_machine.specs.Next.{due_by, due_by_hand, due_of_frames}
use Rattle.abt_machine.specs.State.{Frame, Left, Mark, State, Stream}
use Rattle.abt_machine.specs.Workloads.{pools_of}
use Rattle.abt_replay.specs.Unnumbered.{unnumbered, unnumbered_frame}
use Rattle.abt_explore.specs.Unnumbered.{unnumbered_state}

-- Numbers that are forgotten twice are forgotten once.

twice-frames : (fs : List Frame) → map unnumbered_frame (map unnumbered_frame fs) ≡ map unnumbered_frame fs
twice-frames [] = refl
twice-frames (f ∷ fs) = ap (λ (gs : List Frame). unnumbered_frame f ∷ gs) (twice-frames fs)

twice : (own : Stream) → unnumbered (unnumbered own) ≡ unnumbered own
twice own = ap (λ (fs : List Frame). record (unnumbered own) { below = fs }) (twice-frames own.below)

pub twice-state : (S : State) → unnumbered_state (unnumbered_state S) ≡ unnumbered_state S
twice-state S = ap (λ (f : ℕ → Stream). record S { stream = f }) (fun_ext (λ s. twice (S.stream s)))

-- What a stream becomes does not depend on them.

-- a mark
pub marked-forgotten : (m : Mark) (own : Stream) → unnumbered (marked m (unnumbered own)) ≡ unnumbered (marked m own)
marked-forgotten m own = ap (λ (fs : List Frame). record (unnumbered own) { mark = m; below = fs }) (twice-frames own.below)

-- a taken unit
pub taken-forgotten : (own : Stream) → unnumbered (round_taken (unnumbered own)) ≡ unnumbered (round_taken own)
taken-forgotten own = ap (λ (fs : List Frame). record { mark = own.mark; top = frame_at own.top.sched 0 false; below = fs }) (twice-frames own.below)

missed-by : (sched p r : ℕ) (seen : List ℕ) (b : Bool) →
    unnumbered_frame (if b then frame_at sched (suc 0) true else record { sched = sched; round = 0; seen = seen ++ p ∷ []; empty = false })
    ≡ unnumbered_frame (if b then frame_at sched (suc r) true else record { sched = sched; round = r; seen = seen ++ p ∷ []; empty = false })
missed-by sched p r seen true = refl
missed-by sched p r seen false = refl

-- a missed pool
pub missed-forgotten : (W : Parts) (p : ℕ) (own : Stream) → unnumbered (round_missed W p (unnumbered own)) ≡ unnumbered (round_missed W p own)
missed-forgotten W p own = λ i. record {
  mark = own.mark;
  top = missed-by own.top.sched p own.top.round own.top.seen (length (pools_of W own.top.sched) == suc (length own.top.seen)) i;
  below = twice-frames own.below i;
}

-- a scheduler that is entered
pub entered-forgotten : (g : ℕ) (own : Stream) → unnumbered (entered g (unnumbered own)) ≡ unnumbered (entered g own)
entered-forgotten g own = ap (λ (fs : List Frame). record { mark = own.mark; top = frame_at g 0 false; below = unnumbered_frame own.top ∷ fs }) (twice-frames own.below)

left-by : (own : Stream) (fs : List Frame) → unnumbered (left_to (unnumbered own) (map unnumbered_frame fs)) ≡ unnumbered (left_to own fs)
left-by own [] = twice own
left-by own (f ∷ fs) = ap (λ (gs : List Frame). record { mark = Left; top = unnumbered_frame f; below = gs }) (twice-frames fs)

-- and one that is left
pub left-forgotten : (own : Stream) → unnumbered (left (unnumbered own)) ≡ unnumbered (left own)
left-forgotten own = left-by own own.below

-- What is due does not depend on them.

due-frames : (empty : Bool) (fs : List Frame) → due_of_frames empty (map unnumbered_frame fs) ≡ due_of_frames empty fs
due-frames true [] = refl
due-frames true (f ∷ fs) = refl
due-frames false fs = refl

due-hand : (W : Parts) (s : ℕ) (own : Stream) (in_hand : Option (ℕ × ℕ)) → due_by_hand W s (unnumbered own) in_hand ≡ due_by_hand W s own in_hand
due-hand W s own (Some u) = refl
due-hand W s own None = due-frames own.top.empty own.below

pub due-forgotten : {X Y : Type 0} (W : Parts) (s : ℕ) (own : Stream) (xs : List X) (taken : Option Y) (in_hand : Option (ℕ × ℕ)) →
    due_by W s (unnumbered own) xs taken in_hand ≡ due_by W s own xs taken in_hand
due-forgotten W s own (x ∷ xs) taken in_hand = refl
due-forgotten W s own [] (Some v) in_hand = refl
due-forgotten W s own [] None in_hand = due-hand W s own in_hand

-- Changes at some numbers.

forgotten-by : (b : Bool) (own here : Stream) → unnumbered (if b then own else here) ≡ (if b then unnumbered own else unnumbered here)
forgotten-by true own here = refl
forgotten-by false own here = refl

-- what is put and then forgotten is forgotten and then put
pub put-forgotten : (f g : ℕ → Stream) → ((n : ℕ) → unnumbered (f n) ≡ g n) → (ps : List (ℕ × Stream)) (n : ℕ) → unnumbered (put_all f ps n) ≡ put_all g (map (λ p. (p.0, unnumbered p.1)) ps) n
put-forgotten f g same [] n = same n
put-forgotten f g same (p ∷ ps) n =
    put-forgotten (put_at f p.0 p.1) (put_at g p.0 (unnumbered p.1))
    (λ k. forgotten-by (k == p.0) p.1 (f k) ∙ ap (λ (here : Stream). if k == p.0 then unnumbered p.1 else here) (same k)) ps n
