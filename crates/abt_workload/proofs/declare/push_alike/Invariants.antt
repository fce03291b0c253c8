use Rattle.std.proofs.Common.{◌≡◌, ◌≤◌, ◌+◌, ◌++◌, flat_map, length}
use Rattle.abt_machine.specs.declared.grammar.Format.TheVariants as format
use Rattle.abt_machine.specs.Declaring.{alike}
use Rattle.abt_machine.specs.Limits.{operation_limit}
use Rattle.abt_machine.specs.Operations.{said_by}
use Rattle.abt_machine.specs.Workloads.{all_ops, ops_of}
use Rattle.abt_workload.specs.Declarable.{AreLater}
use Rattle.abt_workload.proofs.declare.push_alike.Given as goal

abbrev pub invariant-loop-left : goal.invariant-loop-left
invariant-loop-left l = record {
  units : l.units ++ alike l.left l.said l.part ≡ l.fn.units ++ alike l.copies l.said l.fn.part;
  few_ops : length (all_ops l.units) + length (all_ops (alike l.left l.said l.part)) ≤ operation_limit format.Three;
  words : AreLater l.left l.said (flat_map said_by (ops_of l.part.body));
}

abbrev pub decreases-loop-left : goal.decreases-loop-left
decreases-loop-left l = l.left
