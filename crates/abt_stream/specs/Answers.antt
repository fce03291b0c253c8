-- Which pools the rounds of a stream visit, by the orders that are answered for them. What is answered is said by a fact of a scheduler, a
-- round and an order.
use Rattle.std.specs.Prelude.{ℕ, suc, ◌≡◌, ◌≢◌, ◌++◌, ◌⊎◌, ⊤, false, List, [], ◌∷◌}
use Rattle.abt_machine.specs.declared.events.Event.{Event}
use Rattle.abt_machine.specs.declared.events.What.{What}
use Rattle.abt_machine.specs.declared.events.What.TheVariants as what
use Rattle.abt_machine.specs.declared.workload.Parts.{Parts}
use Rattle.abt_machine.specs.Frames.{frame_at, frame_missed, sched_of}
use Rattle.abt_machine.specs.Rounds.{IsPrefixOf}
use Rattle.abt_machine.specs.State.{Frame, Stream}
use Rattle.abt_machine.specs.Workloads.{body_at, main_of}
use Rattle.abt_order.specs.Schedulers.{pool_numbers}
use Rattle.abt_stream.specs.Streams.{StreamValue}

-- Visits.

-- p may be the next pool of the frame's round: an answered order begins with the pools that were seen, and then p
abbrev pub IsNextAnswered : (ℕ → ℕ → List ℕ → Type 0) → Frame → ℕ → Type 0
IsNextAnswered Answered f p = (order : List ℕ) × Answered f.sched f.round order × IsPrefixOf (f.seen ++ p ∷ []) order

-- if the event visits a pool, that pool may be the next of the frame's round
abbrev pub VisitsAnswered : (ℕ → ℕ → List ℕ → Type 0) → Frame → What → Type 0
VisitsAnswered Answered f (what.Miss p) = IsNextAnswered Answered f p.0
VisitsAnswered Answered f (what.Take p u) = IsNextAnswered Answered f p.0
VisitsAnswered Answered f (what.Look u) = ⊤
VisitsAnswered Answered f (what.Step u k c) = ⊤
VisitsAnswered Answered f (what.Call u k n) = ⊤
VisitsAnswered Answered f (what.Put u p) = ⊤
VisitsAnswered Answered f (what.End u c) = ⊤
VisitsAnswered Answered f (what.Enter u) = ⊤
VisitsAnswered Answered f (what.Leave u) = ⊤

-- Frames.

-- the top frame, and those below it from above
abbrev pub Frames : Type 0
Frames = Frame × List Frame

abbrev pub frames_of : Stream → Frames
frames_of own = (own.top, own.below)

-- those that a stream has at the start
abbrev pub start_frames : Parts → ℕ → Frames
start_frames W s = (frame_at (main_of W s) 0 false, [])

-- the top frame is gone, if one is below it
abbrev pub frames_left : Frames → List Frame → Frames
frames_left fs [] = fs
frames_left fs (g ∷ gs) = (g, gs)

-- after an event of their stream
abbrev pub frames_after : Parts → Frames → What → Frames
frames_after W fs (what.Miss p) = (frame_missed W fs.0 p.0, fs.1)
frames_after W fs (what.Take p u) = (frame_at fs.0.sched (suc fs.0.round) false, fs.1)
frames_after W fs (what.Look u) = fs
frames_after W fs (what.Step u k c) = fs
frames_after W fs (what.Call u k n) = fs
frames_after W fs (what.Put u p) = fs
frames_after W fs (what.End u c) = fs
frames_after W fs (what.Enter u) = (frame_at (sched_of (body_at W u.0)) 0 false, fs.0 ∷ fs.1)
frames_after W fs (what.Leave u) = frames_left fs fs.1

-- Streams.

-- these events of one stream lead from frames to frames, and each visit is answered
abbrev pub RoundsAnswered : Parts → (ℕ → ℕ → List ℕ → Type 0) → Frames → List Event → Frames → Type 0
RoundsAnswered W Answered fs [] last = fs ≡ last
RoundsAnswered W Answered fs (e ∷ es) last = VisitsAnswered Answered fs.0 e.what × RoundsAnswered W Answered (frames_after W fs e.what) es last

-- each visit of the stream is answered, and so is an order that it holds
pub record FitsAnswers (W : Parts) (Answered : ℕ → ℕ → List ℕ → Type 0) (s : StreamValue) : Type 0 where
  pub order : (s.order ≢ []) → Answered s.top.scheduler.number s.top.round (pool_numbers s.order)
  pub visits : RoundsAnswered W Answered (start_frames W s.number.0) s.log (frames_of s.held.own)

-- Turns.

-- the order that the stream holds, which is that of its top frame's round
abbrev pub IsHeldOrder : StreamValue → ℕ → ℕ → List ℕ → Type 0
IsHeldOrder s g round order = (s.order ≢ []) × (g ≡ s.top.scheduler.number) × (round ≡ s.top.round) × (order ≡ pool_numbers s.order)

-- the stream made this event, and a visit is of the order that it held
pub record MakesVisit (W : Parts) (old new : StreamValue) (e : Event) : Type 0 where
  pub log : new.log ≡ old.log ++ e ∷ []
  pub frames : frames_of new.held.own ≡ frames_after W (frames_of old.held.own) e.what
  pub visit : VisitsAnswered (IsHeldOrder old) old.held.own.top e.what

-- the stream made no event or one, and if it holds an order it held that one before
pub record Follows (W : Parts) (old new : StreamValue) : Type 0 where
  pub number : new.number ≡ old.number
  pub event : ((new.log ≡ old.log) × (frames_of new.held.own ≡ frames_of old.held.own)) ⊎ ((e : Event) × MakesVisit W old new e)
  pub order : (new.order ≢ []) → IsHeldOrder old new.top.scheduler.number new.top.round (pool_numbers new.order)
