-- The parts of workloads.
use Rattle.std.proofs.Common.{ℕ, List, [], ◌∷◌, Some, None}
use Rattle.std.specs.Prelude.{map, replicate}
use Rattle.std.specs.List.{range_with_len}
use Rattle.abt_machine.specs.declared.operations.Access.{Access}
use Rattle.abt_machine.specs.declared.operations.Access.TheVariants as access
use Rattle.abt_machine.specs.declared.operations.Body.TheVariants as body
use Rattle.abt_machine.specs.declared.operations.Kind.{Kind}
use Rattle.abt_machine.specs.declared.operations.Kind.TheVariants as kind
use Rattle.abt_machine.specs.declared.operations.Op.{Op}
use Rattle.abt_machine.specs.declared.operations.Rule.{Rule}
use Rattle.abt_machine.specs.declared.operations.Rule.TheVariants as rule
use Rattle.abt_machine.specs.declared.operations.Thing.{Thing}
use Rattle.abt_machine.specs.declared.workload.Parts.{Parts}
use Rattle.abt_machine.specs.declared.workload.PoolPart.{PoolPart}
use Rattle.abt_machine.specs.declared.workload.SchedPart.{SchedPart}
use Rattle.abt_machine.specs.declared.workload.UnitPart.{UnitPart}
use Rattle.abt_machine.specs.Numbers.{pool_no, sched_no, stream_no}
use Rattle.abt_machine.specs.Words.{Text}

abbrev pub pool : Kind → Access → PoolPart
pool k a = record { kind = k; access = a }

-- so many FIFO pools that all streams may use
abbrev pub fifos : ℕ → List PoolPart
fifos n = replicate n (pool kind.Fifo access.Mpmc)

abbrev pub sched : Rule → List ℕ → SchedPart
sched r ps = record { rule = r; pools = map pool_no ps }

abbrev pub ult_at : ℕ → List Op → UnitPart
ult_at p ops = record { body = body.Ult ops; start = Some (pool_no p) }

abbrev pub ult_later : List Op → UnitPart
ult_later ops = record { body = body.Ult ops; start = None }

abbrev pub task_later : List Op → UnitPart
task_later ops = record { body = body.Task ops; start = None }

abbrev pub sched_at : ℕ → ℕ → UnitPart
sched_at g p = record { body = body.Sched (sched_no g); start = Some (pool_no p) }

-- so many streams, whose main schedulers are the first ones, in order
abbrev pub declared_for : ℕ → ℕ → List PoolPart → List SchedPart → List Thing → List UnitPart → List Text → Parts
declared_for streams keys pools scheds objects units words = record {
  streams = streams;
  keys = keys;
  pools = pools;
  scheds = scheds;
  mains = map sched_no (range_with_len 0 streams);
  objects = objects;
  units = units;
  words = words;
}

-- the same, with these main schedulers, in order of stream
abbrev pub with_mains : List ℕ → Parts → Parts
with_mains gs W = record W { mains = map sched_no gs }

-- one stream
abbrev pub declared : ℕ → List PoolPart → List SchedPart → List Thing → List UnitPart → List Text → Parts
declared = declared_for 1

-- one stream, one FIFO pool that all streams may use, and a PRIO scheduler
abbrev pub based : ℕ → List Thing → List UnitPart → List Text → Parts
based keys objects units words = declared keys (fifos 1) (sched rule.Prio (0 ∷ []) ∷ []) objects units words

-- one stream, two such pools, and a PRIO scheduler of both
abbrev pub based_on_two : List UnitPart → List Text → Parts
based_on_two = declared 0 (fifos 2) (sched rule.Prio (0 ∷ 1 ∷ []) ∷ []) []

-- one stream, two such pools, the main scheduler of the first, and a scheduler of the second
abbrev pub stacked_on_two : List UnitPart → List Text → Parts
stacked_on_two = declared 0 (fifos 2) (sched rule.Prio (0 ∷ []) ∷ sched rule.Prio (1 ∷ []) ∷ []) []

-- two streams, each with a pool of its own, and a pool into which the first alone puts and from which the second alone takes
abbrev pub fenced : List UnitPart → List Text → Parts
fenced = declared_for 2 0
    (pool kind.Fifo (access.Priv (stream_no 0)) ∷ pool kind.Fifo (access.Priv (stream_no 1)) ∷ pool kind.Fifo (access.Spsc (stream_no 0) (stream_no 1)) ∷ [])
    (sched rule.Prio (0 ∷ []) ∷ sched rule.Prio (1 ∷ 2 ∷ []) ∷ []) []
