use Rattle.std.proofs.Common.{◌≡◌, ◌++◌, flat_map, take}
use Rattle.abt_view.specs.Shapes.{jump_text}
use Rattle.abt_view.proofs.shapes.push_jumps.Given as goal

abbrev pub invariant-loop-jump : goal.invariant-loop-jump
invariant-loop-jump l = l.out.items ≡ l.fn.out.items ++ flat_map (jump_text l.since) (take l.jump-index l.jumps)
