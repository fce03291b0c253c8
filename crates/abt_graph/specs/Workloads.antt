-- A graph as a workload.
use Rattle.std.specs.Prelude.{ℕ, suc, ◌+◌, ◌%◌, List, [], ◌∷◌, ◌++◌, length, map, min, replicate, Some}
use Rattle.std.specs.List.{range_with_len}
use Rattle.abt_machine.specs.declared.numbers.UnitNo.{UnitNo}
use Rattle.abt_machine.specs.declared.operations.Access.TheVariants as access
use Rattle.abt_machine.specs.declared.operations.Body.TheVariants as body
use Rattle.abt_machine.specs.declared.operations.Kind.TheVariants as kind
use Rattle.abt_machine.specs.declared.operations.Op.{Op}
use Rattle.abt_machine.specs.declared.operations.Op.TheVariants as op
use Rattle.abt_machine.specs.declared.operations.Rule.TheVariants as rule
use Rattle.abt_machine.specs.declared.operations.Thing.TheVariants as thing
use Rattle.abt_machine.specs.declared.workload.Parts.{Parts}
use Rattle.abt_machine.specs.declared.workload.PoolPart.{PoolPart}
use Rattle.abt_machine.specs.declared.workload.SchedPart.{SchedPart}
use Rattle.abt_machine.specs.declared.workload.UnitPart.{UnitPart}
use Rattle.abt_machine.specs.Limits.{key_limit, listed_limit}
use Rattle.abt_machine.specs.Numbers.{object_no, pool_no, sched_no}
use Rattle.abt_machine.specs.Words.{numbered}
use Rattle.abt_graph.specs.declared.nodes.Node.{Node}

-- each stream has a deque of its own, for all streams
abbrev pub deque : PoolPart
deque = record { kind = kind.Deque; access = access.Mpmc }

-- the pools that stream s lists: its own, and those of the streams that follow it, as many as a scheduler may list
abbrev pub pool_listed : ℕ → ℕ → ℕ → ℕ
pool_listed streams s k = (s + k) % streams

abbrev pub pools_listed : ℕ → ℕ → List ℕ
pools_listed streams s = map (pool_listed streams s) (range_with_len 0 (min streams listed_limit))

-- the scheduler of stream s steals
abbrev pub sched_for : ℕ → ℕ → SchedPart
sched_for streams s = record { rule = rule.Randws s; pools = map pool_no (pools_listed streams s) }

-- a unit waits for the values of nodes, one after the other, and keeps each in a key, from this key on
abbrev pub fetch_ops : ℕ → List UnitNo → List Op
fetch_ops k [] = []
fetch_ops k (x ∷ after) = op.EvWait (object_no x.0) ∷ op.KeySet k ∷ fetch_ops (suc k) after

-- the unit of node u has the values that it waits for as keys, and how many they are as accumulator; it calls its function,
-- puts out what that returns, and sets eventual u to it
abbrev pub node_ops : ℕ → Node → List Op
node_ops u node = fetch_ops 0 node.after ++ op.Set (length node.after) ∷ op.Call node.function ∷ op.Print ∷ op.EvSet (object_no u) ∷ []

-- it starts in the pool of stream u mod streams
abbrev pub node_unit : ℕ → ℕ → Node → UnitPart
node_unit streams u node = record { body = body.Ult (node_ops u node); start = Some (pool_no (u % streams)) }

-- the workload of a graph on this many streams
unfoldable pub workload_of : ℕ → List Node → Parts
workload_of streams nodes = record {
  streams = streams;
  keys = key_limit;
  pools = replicate streams deque;
  scheds = map (sched_for streams) (range_with_len 0 streams);
  mains = map sched_no (range_with_len 0 streams);
  objects = replicate (length nodes) thing.Eventual;
  units = numbered (node_unit streams) nodes;
  words = [];
}
