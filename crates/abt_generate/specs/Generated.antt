-- The generator's workload for n units that add.
use Rattle.std.specs.Prelude.{ℕ, ◌+◌, ◌%◌, ◌==◌, List, [], ◌∷◌, ◌++◌, map, filter, not, replicate, Some, None}
use Rattle.std.specs.List.{range_with_len}
use Rattle.abt_machine.specs.declared.operations.Access.TheVariants as access
use Rattle.abt_machine.specs.declared.operations.Body.TheVariants as body
use Rattle.abt_machine.specs.declared.operations.Kind.TheVariants as kind
use Rattle.abt_machine.specs.declared.operations.Op.{Op}
use Rattle.abt_machine.specs.declared.operations.Op.TheVariants as op
use Rattle.abt_machine.specs.declared.operations.Rule.TheVariants as rule
use Rattle.abt_machine.specs.declared.operations.Thing.TheVariants as thing
use Rattle.abt_machine.specs.declared.workload.Parts.{Parts}
use Rattle.abt_machine.specs.declared.workload.PoolPart.{PoolPart}
use Rattle.abt_machine.specs.declared.workload.SchedPart.{SchedPart}
use Rattle.abt_machine.specs.declared.workload.UnitPart.{UnitPart}
use Rattle.abt_machine.specs.Numbers.{object_no, pool_no, sched_no, unit_no}

-- four streams, each with a deque of its own
abbrev pub stream_count : ℕ
stream_count = 4

abbrev pub streams : List ℕ
streams = range_with_len 0 stream_count

-- each pool is a deque for all streams
abbrev pub deque : PoolPart
deque = record { kind = kind.Deque; access = access.Mpmc }

-- scheduler i steals: pool i comes first, then the others in rising order
abbrev pub sched_for : ℕ → ℕ → SchedPart
sched_for n i = record { rule = rule.Randws (n + i); pools = map pool_no (i ∷ filter (λ p. not (p == i)) streams) }

-- the units that add, 1 to n
abbrev pub adders : ℕ → List ℕ
adders n = range_with_len 1 n

-- unit 0 creates the adders, in turn in each pool, joins them and prints the sum
abbrev pub first_ops : ℕ → List Op
first_ops n =
    map (λ v. op.Create (unit_no v) (pool_no (v % stream_count))) (adders n) ++
    map (λ v. op.Join (unit_no v)) (adders n) ++
    op.Lock (object_no 0) ∷ op.Load (object_no 0) ∷ op.Print ∷ op.Unlock (object_no 0) ∷ []

abbrev pub first_unit : ℕ → UnitPart
first_unit n = record { body = body.Ult (first_ops n); start = Some (pool_no 0) }

-- an adder yields, and then adds its number under the mutex
abbrev pub adder_ops : ℕ → List Op
adder_ops v = op.Yield ∷ op.Lock (object_no 0) ∷ op.Load (object_no 0) ∷ op.Add v ∷ op.Store (object_no 0) ∷ op.Unlock (object_no 0) ∷ []

abbrev pub adder : ℕ → UnitPart
adder v = record { body = body.Ult (adder_ops v); start = None }

-- the workload of n adders
unfoldable pub generated : ℕ → Parts
generated n = record {
  streams = stream_count;
  keys = 0;
  pools = replicate stream_count deque;
  scheds = map (sched_for n) streams;
  mains = map sched_no streams;
  objects = thing.Mutex ∷ [];
  units = first_unit n ∷ map adder (adders n);
  words = [];
}
