-- The streams before are idle.
use Rattle.std.proofs.Common.{ℕ, ◌<◌, get_or}
use Rattle.abt_machine.specs.Values.{Held}
use Rattle.abt_outcomes.specs.Values.{IsIdle}
use Rattle.abt_model.proofs.ends.are_idle.Given as goal

abbrev pub invariant-loop-lane : goal.invariant-loop-lane
invariant-loop-lane l = (k : ℕ) (d : Held) → k < l.lane-index → IsIdle (get_or l.lanes k d)
