use Rattle.std.proofs.Common.{◌≡◌, ◌++◌, drop, map, take}
use Rattle.abt_replay.specs.Unnumbered.{unnumbered_held}
use Rattle.abt_model.proofs.copies.forget_rounds.Given as goal

abbrev pub invariant-loop-lane : goal.invariant-loop-lane
invariant-loop-lane l = l.lane-items ≡ map unnumbered_held (take l.lane-index l.fn.lanes.items) ++ drop l.lane-index l.fn.lanes.items
