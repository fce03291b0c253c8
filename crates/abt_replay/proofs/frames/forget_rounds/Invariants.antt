use Rattle.std.proofs.Common.{◌≡◌, ◌++◌, drop, map, take}
use Rattle.abt_replay.specs.Unnumbered.{unnumbered_frame}
use Rattle.abt_replay.proofs.frames.forget_rounds.Given as goal

abbrev pub invariant-loop-frame : goal.invariant-loop-frame
invariant-loop-frame l = l.frame-items ≡ map unnumbered_frame (take l.frame-index l.fn.frames.items) ++ drop l.frame-index l.fn.frames.items
