use Rattle.std.proofs.Common.{◌≡◌, ◌++◌, flat_map, take}
use Rattle.abt_view.specs.Shapes.{lines_in}
use Rattle.abt_view.proofs.pictures.push_arrows.Given as goal

abbrev pub invariant-loop-arrow : goal.invariant-loop-arrow
invariant-loop-arrow l = l.out.items ≡ l.fn.out.items ++ flat_map (lines_in l.band) (take l.arrow-index l.arrows)
