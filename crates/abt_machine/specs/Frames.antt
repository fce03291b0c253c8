-- How a stream's mark and frames change.
use Rattle.std.specs.Prelude.{ℕ, suc, ◌==◌, if◌then◌else◌, Bool, true, false, List, [], ◌∷◌, ◌++◌, length}
use Rattle.abt_machine.specs.declared.operations.Body.{Body}
use Rattle.abt_machine.specs.declared.operations.Body.TheVariants as body
use Rattle.abt_machine.specs.declared.workload.Parts.{Parts}
use Rattle.abt_machine.specs.Workloads.{pools_of}
use Rattle.abt_machine.specs.State.{Stream, Frame, Mark, Left}

abbrev pub marked : Mark → Stream → Stream
marked m own = record own { mark = m }

-- the frame of scheduler g at the beginning of round r
abbrev pub frame_at : ℕ → ℕ → Bool → Frame
frame_at g r empty = record { sched = g; round = r; seen = []; empty = empty }

-- a taken unit ends the round
abbrev pub round_taken : Stream → Stream
round_taken own = record own { top = frame_at own.top.sched (suc own.top.round) false }

-- a missed pool is seen, and the last one ends the round empty
abbrev pub frame_missed : Parts → Frame → ℕ → Frame
frame_missed W f p =
    if length (pools_of W f.sched) == suc (length f.seen)
    then frame_at f.sched (suc f.round) true
    else record { sched = f.sched; round = f.round; seen = f.seen ++ p ∷ []; empty = false }

abbrev pub round_missed : Parts → ℕ → Stream → Stream
round_missed W p own = record own { top = frame_missed W own.top p }

abbrev pub sched_of : Body → ℕ
sched_of (body.Sched g) = g.0
sched_of (body.Ult ops) = 0
sched_of (body.Task ops) = 0

-- scheduler g runs on top of the frames that there are
abbrev pub entered : ℕ → Stream → Stream
entered g own = record { mark = own.mark; top = frame_at g 0 false; below = own.top ∷ own.below }

abbrev pub left_to : Stream → List Frame → Stream
left_to own [] = own
left_to own (f ∷ fs) = record { mark = Left; top = f; below = fs }

-- the top frame is gone, and its unit is marked as having left
abbrev pub left : Stream → Stream
left own = left_to own own.below
