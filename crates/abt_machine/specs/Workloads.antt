-- What a workload declares, by number.
use Rattle.std.specs.Prelude.{ℕ, ◌≡◌, ◌==◌, Bool, true, false, List, [], Option, Some, None, slice_get, option_map, map, flat_map, take, count_by}
use Rattle.abt_machine.specs.declared.numbers.PoolNo.{PoolNo}
use Rattle.abt_machine.specs.declared.numbers.SchedNo.{SchedNo}
use Rattle.abt_machine.specs.declared.numbers.ObjectNo.{ObjectNo}
use Rattle.abt_machine.specs.declared.operations.Access.{Access}
use Rattle.abt_machine.specs.declared.operations.Access.TheVariants as access
use Rattle.abt_machine.specs.declared.operations.Body.{Body}
use Rattle.abt_machine.specs.declared.operations.Body.TheVariants as body
use Rattle.abt_machine.specs.declared.operations.Combine.{Combine}
use Rattle.abt_machine.specs.declared.operations.Combine.TheVariants as combine
use Rattle.abt_machine.specs.declared.operations.Kind.{Kind}
use Rattle.abt_machine.specs.declared.operations.Kind.TheVariants as kind
use Rattle.abt_machine.specs.declared.operations.Op.{Op}
use Rattle.abt_machine.specs.declared.operations.Rule.{Rule}
use Rattle.abt_machine.specs.declared.operations.Thing.{Thing}
use Rattle.abt_machine.specs.declared.operations.Thing.TheVariants as thing
use Rattle.abt_machine.specs.declared.workload.Parts.{Parts}
use Rattle.abt_machine.specs.declared.workload.PoolPart.{PoolPart}
use Rattle.abt_machine.specs.declared.workload.SchedPart.{SchedPart}
use Rattle.abt_machine.specs.declared.workload.UnitPart.{UnitPart}

-- Units.

abbrev pub ops_of : Body → List Op
ops_of (body.Ult ops) = ops
ops_of (body.Task ops) = ops
ops_of (body.Sched g) = []

-- the operations of units, one unit after the other
abbrev pub all_ops : List UnitPart → List Op
all_ops = flat_map (λ (part : UnitPart). ops_of part.body)

abbrev pub body_from : Option UnitPart → Body
body_from None = body.Ult []
body_from (Some part) = part.body

abbrev pub body_at : Parts → ℕ → Body
body_at W u = body_from (slice_get W.units u)

abbrev pub is_sched : Body → Bool
is_sched (body.Ult ops) = false
is_sched (body.Task ops) = false
is_sched (body.Sched g) = true

-- the operation of a unit at a position
abbrev pub op_at : Parts → ℕ → ℕ → Option Op
op_at W u k = slice_get (ops_of (body_at W u)) k

abbrev pub start_from : Option UnitPart → Option ℕ
start_from None = None
start_from (Some part) = option_map (λ (p : PoolNo). p.0) part.start

-- the pool that a unit starts in, if it has one
abbrev pub start_of : Parts → ℕ → Option ℕ
start_of W u = start_from (slice_get W.units u)

-- Pools.

abbrev pub kind_from : Option PoolPart → Kind
kind_from None = kind.Fifo
kind_from (Some part) = part.kind

abbrev pub kind_of : Parts → ℕ → Kind
kind_of W p = kind_from (slice_get W.pools p)

abbrev pub access_from : Option PoolPart → Access
access_from None = access.Mpmc
access_from (Some part) = part.access

abbrev pub access_of : Parts → ℕ → Access
access_of W p = access_from (slice_get W.pools p)

-- Schedulers.

abbrev pub pools_from : Option SchedPart → List ℕ
pools_from None = []
pools_from (Some part) = map (λ (p : PoolNo). p.0) part.pools

-- the pools that a scheduler lists, in order
abbrev pub pools_of : Parts → ℕ → List ℕ
pools_of W g = pools_from (slice_get W.scheds g)

-- the rule of a scheduler
abbrev pub rule_of : Parts → ℕ → Option Rule
rule_of W g = option_map (λ (part : SchedPart). part.rule) (slice_get W.scheds g)

abbrev pub main_from : Option SchedNo → ℕ
main_from None = 0
main_from (Some g) = g.0

-- the main scheduler of a stream
abbrev pub main_of : Parts → ℕ → ℕ
main_of W s = main_from (slice_get W.mains s)

-- Objects.

abbrev pub thing_at : Parts → ℕ → Option Thing
thing_at W x = slice_get W.objects x

abbrev pub mutex_from : ℕ → Option Thing → ℕ
mutex_from x (Some (thing.Cond m)) = m.0
mutex_from x _ = x

-- the mutex of a condition
abbrev pub mutex_of : Parts → ℕ → ℕ
mutex_of W x = mutex_from x (thing_at W x)

abbrev pub IsCondition : Parts → ℕ → Type 0
IsCondition W x = (m : ObjectNo) × (thing_at W x ≡ Some (thing.Cond m))

abbrev pub is_condition_of : ℕ → Thing → Bool
is_condition_of m (thing.Cond n) = n.0 == m
is_condition_of m _ = false

-- how many conditions of a condition's mutex are declared before it
abbrev pub condition_number : Parts → ℕ → ℕ
condition_number W x = count_by (is_condition_of (mutex_of W x)) (take x W.objects)

abbrev pub size_from : Option Thing → ℕ
size_from (Some (thing.Future n c)) = n
size_from (Some (thing.Barrier n)) = n
size_from _ = 0

-- the number of compartments of a future, or of parties of a barrier
abbrev pub size_of : Parts → ℕ → ℕ
size_of W x = size_from (thing_at W x)

abbrev pub combine_from : Option Thing → Combine
combine_from (Some (thing.Future n c)) = c
combine_from _ = combine.Sum

-- what a future computes from its values
abbrev pub combine_of : Parts → ℕ → Combine
combine_of W x = combine_from (thing_at W x)
