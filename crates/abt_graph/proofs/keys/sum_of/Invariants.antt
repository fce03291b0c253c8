use Rattle.std.proofs.Common.{◌≡◌}
use Rattle.std.specs.Prelude.{take}
use Rattle.abt_graph.specs.Shapes.{word_sum}
use Rattle.abt_graph.proofs.keys.sum_of.Given as goal

abbrev pub invariant-loop-key : goal.invariant-loop-key
invariant-loop-key l = l.total ≡ word_sum (take l.key-index l.keys)
