use Rattle.std.proofs.Common.{◌≡◌, ◌++◌, flat_map, take}
use Rattle.abt_view.specs.Shapes.{bar_in}
use Rattle.abt_view.proofs.pictures.push_bars.Given as goal

abbrev pub invariant-loop-bar : goal.invariant-loop-bar
invariant-loop-bar l = l.out.items ≡ l.fn.out.items ++ flat_map (bar_in l.band l.names) (take l.bar-index l.bars)
