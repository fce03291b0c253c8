-- How a scheduler's round ends: by a take, or empty by the miss of its last pool.
use Rattle.std.specs.Prelude.{ℕ, suc, ◌≡◌, true, false, List, [], ◌∷◌, ◌++◌}
use Rattle.abt_machine.specs.declared.events.Event.{Event}
use Rattle.abt_machine.specs.declared.events.What.TheVariants as what
use Rattle.abt_machine.specs.declared.numbers.PoolNo.{PoolNo}
use Rattle.abt_machine.specs.declared.numbers.UnitNo.{UnitNo}
use Rattle.abt_machine.specs.Stored.{Stored}
use Rattle.abt_machine.specs.declared.workload.Parts.{Parts}
use Rattle.abt_machine.specs.Events.{After}
use Rattle.abt_machine.specs.Rounds.{IsOrder}
use Rattle.abt_machine.specs.State.{Frame, State}

-- the frame, when the next round of its scheduler begins
abbrev pub next_round : Frame → Frame
next_round f = record { sched = f.sched; round = suc f.round; seen = []; empty = false }

-- the same, after a round that ended empty
abbrev pub after_empty_round : Frame → Frame
after_empty_round f = record (next_round f) { empty = true }

-- the frame in the same round, which has seen these pools
abbrev pub having_seen : List ℕ → Frame → Frame
having_seen ps f = record { sched = f.sched; round = f.round; seen = ps; empty = false }

-- the frame on top of the event's stream
abbrev pub top_of : State → Event → Frame
top_of S e = (S.stream e.stream.0).top

-- a take ends the round, which is then not empty
abbrev pub TakesEndRounds : Parts → Stored → Type 0
TakesEndRounds W Z = (S T : State) (e : Event) (p : PoolNo) (u : UnitNo) → After W Z S e T → e.what ≡ what.Take p u → top_of T e ≡ next_round (top_of S e)

-- the round of the frame is over with these pools: they are an order in which it may visit all
abbrev pub IsWholeRound : Parts → Stored → Frame → List ℕ → Type 0
IsWholeRound W Z f ps = IsOrder W Z.orders f.sched f.round ps

-- a miss ends the round empty if the round is over with its pool, and otherwise the round goes on after it
abbrev pub MissesEndRounds : Parts → Stored → Type 0
MissesEndRounds W Z = (S T : State) (e : Event) (p : PoolNo) → After W Z S e T → e.what ≡ what.Miss p →
    let seen : List ℕ = (top_of S e).seen ++ p.0 ∷ [] in
    (IsWholeRound W Z (top_of S e) seen → top_of T e ≡ after_empty_round (top_of S e))
    × ((IsWholeRound W Z (top_of S e) seen → ⊥) → top_of T e ≡ having_seen seen (top_of S e))
