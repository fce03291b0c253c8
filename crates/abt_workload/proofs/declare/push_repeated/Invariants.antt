use Rattle.std.proofs.Common.{◌≡◌, ◌++◌}
use Rattle.abt_machine.specs.Declaring.{repeated}
use Rattle.abt_workload.proofs.declare.push_repeated.Given as goal

abbrev pub invariant-loop-left : goal.invariant-loop-left
invariant-loop-left l = record {
  words : l.words.items ++ repeated l.left l.fn.said.items ≡ l.fn.words.items ++ repeated l.copies l.fn.said.items;
  said : l.said.items ≡ l.fn.said.items;
}

abbrev pub decreases-loop-left : goal.decreases-loop-left
decreases-loop-left l = l.left
