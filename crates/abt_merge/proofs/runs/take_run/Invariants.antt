-- On the way: what is appended so far comes before what is left, and there is room for all that is left.
use Rattle.std.proofs.Common.{◌≡◌, ◌+◌, ◌≤◌, ◌++◌, List, length, vec_capacity, vec_len}
use Rattle.std.specs.List.{All}
use Rattle.abt_machine.specs.declared.events.Event.{Event}
use Rattle.abt_merge.proofs.runs.take_run.Given as goal

abbrev pub invariant-loop-event : goal.invariant-loop-event
invariant-loop-event l =
    (vec_len l.events + length l.rest ≤ vec_capacity l.events)
    × (vec_capacity l.events ≡ vec_capacity l.fn.events)
    × ((run : List Event) × (l.events.items ≡ l.fn.events.items ++ run) × (l.log ≡ run ++ l.rest) × All (λ e. e.stamp ≤ l.last) run)

abbrev pub decreases-loop-event : goal.decreases-loop-event
decreases-loop-event l = length l.rest
