use Rattle.std.proofs.Common.{◌≡◌, ◌++◌, flat_map}
use Rattle.std.specs.List.{range_with_len}
use Rattle.abt_view.specs.Picture.{tick_text}
use Rattle.abt_view.proofs.pictures.push_ticks.Given as goal

abbrev pub invariant-loop-t : goal.invariant-loop-t
invariant-loop-t l = l.out.items ≡ l.fn.out.items ++ flat_map tick_text (range_with_len l.first l.t)
