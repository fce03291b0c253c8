use Rattle.std.proofs.Common.{◌≡◌, ◌++◌, flat_map, take, None}
use Rattle.abt_view.specs.Arrows.{ended_at}
use Rattle.abt_view.proofs.arrows.Ways.finish.Given as goal

abbrev pub invariant-loop-arrow : goal.invariant-loop-arrow
invariant-loop-arrow l = l.all.items ≡ l.fn.self.past ++ flat_map (ended_at None) (take l.arrow-index l.fn.self.waiting)
