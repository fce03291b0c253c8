-- A workload that shows the laws at work: two streams share a pool.
use Rattle.std.specs.Prelude.{List, [], ◌∷◌}
use Rattle.abt_machine.specs.declared.numbers.PoolNo.{PoolNo}
use Rattle.abt_machine.specs.declared.operations.Access.TheVariants as access
use Rattle.abt_machine.specs.declared.operations.Kind.TheVariants as kind
use Rattle.abt_machine.specs.declared.operations.Rule.TheVariants as rule
use Rattle.abt_machine.specs.declared.operations.Thing.{Thing}
use Rattle.abt_machine.specs.declared.workload.Parts.{Parts}
use Rattle.abt_machine.specs.declared.workload.SchedPart.{SchedPart}
use Rattle.abt_machine.specs.declared.workload.UnitPart.{UnitPart}
use Rattle.abt_machine.specs.Numbers.{pool_no, sched_no}

-- a scheduler that lists pools in order
abbrev pub in_order : List PoolNo → SchedPart
in_order pools = record { rule = rule.Prio; pools = pools }

-- two streams with a scheduler each, one pool for both, and these objects and units
abbrev pub sharing : List Thing → List UnitPart → Parts
sharing objects units = record {
  streams = 2;
  keys = 0;
  pools = record { kind = kind.Fifo; access = access.Mpmc } ∷ [];
  scheds = in_order (pool_no 0 ∷ []) ∷ in_order (pool_no 0 ∷ []) ∷ [];
  mains = sched_no 0 ∷ sched_no 1 ∷ [];
  objects = objects;
  units = units;
  words = [];
}
