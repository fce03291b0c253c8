use Rattle.std.proofs.Common.{◌≡◌, map, take}
use Rattle.abt_view.specs.Frames.{lasting}
use Rattle.abt_view.proofs.frames.Nest.finish.Given as goal

abbrev pub invariant-loop-frame : goal.invariant-loop-frame
invariant-loop-frame l = l.all.items ≡ map (lasting l.last) (take l.frame-index l.fn.self.inside)
