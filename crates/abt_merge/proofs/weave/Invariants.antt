-- On the way: what is left of each log comes behind the journal so far, which has room for it, and which event comes first is known.
use Rattle.std.proofs.Common.{◌+◌, ◌≤◌, map, vec_capacity, vec_len}
use Rattle.abt_merge.specs.Logs.{count_events}
use Rattle.abt_merge.proofs.Woven.{IsWoven}
use Rattle.abt_merge.proofs.weave.Given as goal

abbrev pub invariant-loop-next : goal.invariant-loop-next
invariant-loop-next l =
    IsWoven l.logs (map (λ rest. rest.now) l.rests.items) l.events.items l.next
    × (vec_len l.events + count_events (map (λ rest. rest.now) l.rests.items) ≤ vec_capacity l.events)

abbrev pub decreases-loop-next : goal.decreases-loop-next
decreases-loop-next l = count_events (map (λ rest. rest.now) l.rests.items)
