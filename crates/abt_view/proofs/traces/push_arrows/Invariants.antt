use Rattle.std.proofs.Common.{◌≡◌, ◌++◌, flat_map, take}
use Rattle.abt_view.specs.Trace.{points_text}
use Rattle.abt_view.proofs.traces.push_arrows.Given as goal

abbrev pub invariant-loop-arrow : goal.invariant-loop-arrow
invariant-loop-arrow l = l.out.items ≡ l.fn.out.items ++ flat_map points_text (take l.arrow-index l.arrows)
