-- What the search for a flow keeps.
use Rattle.std.specs.Prelude.{Vec, ℕ, suc, ◌≡◌, ◌≢◌, ◌<◌, ◌≤◌, ◌+◌, ◌⊎◌, Bool, true, List, [], ◌∷◌, ◌++◌, length, sum_by, count_by, Option, Some, None, slice_get, slice_set, slice_index_or, Contains, MatchBool, ⊤}
use Rattle.abt_machine.specs.declared.numbers.ObjectNo.{ObjectNo}
use Rattle.abt_machine.specs.declared.numbers.PoolNo.{PoolNo}
use Rattle.abt_machine.specs.declared.numbers.UnitNo.{UnitNo}
use Rattle.abt_machine.specs.declared.operations.Op.{Op}
use Rattle.abt_machine.specs.declared.operations.Op.TheVariants as op
use Rattle.abt_machine.specs.declared.workload.Parts.{Parts}
use Rattle.abt_machine.specs.Numbers.{object_no, unit_no}
use Rattle.abt_machine.specs.Workloads.{body_at, op_at, ops_of}
use Rattle.std.specs.declared.alloc.Global.{Global}
use Rattle.abt_flow.specs.declared.memory.Progress.{Progress}
use Rattle.abt_flow.specs.declared.table.Table.{Table}
use Rattle.abt_flow.specs.Effects.{Memory, FlowEffect, Computes, Calls, Awaits, Depends, fresh}
use Rattle.abt_flow.specs.Flow.{AtPoint, Functions, IsReached, SetsTo}

-- Programs.

abbrev pub memory_in : Progress → Memory
memory_in p = record { acc = p.acc; keys = p.keys.items; output = p.output.items }

abbrev pub IsFresh : Parts → Progress → Type 0
IsFresh W p = (p.position ≡ 0) × (memory_in p ≡ fresh W)

abbrev pub IsComputed : FlowEffect → Type 0
IsComputed (Computes f) = ⊤
IsComputed (Calls f) = ⊥
IsComputed (Awaits x) = ⊥
IsComputed Depends = ⊥

-- of n keys there is the one that an operation names
abbrev pub HasKey : Op → ℕ → Type 0
HasKey (op.KeySet k) n = k < n
HasKey (op.KeyGet k) n = k < n
HasKey (op.Calc c k) n = k < n
HasKey _ n = ⊤

-- a memory becomes another by an effect that looks at nothing else
abbrev pub ComputesTo : FlowEffect → Memory → Memory → Type 0
ComputesTo (Computes f) old new = new ≡ f old
ComputesTo _ old new = ⊥

-- Units that are reached.

-- unit u is added to a list and to its marks, unless it is marked
abbrev pub AddsUnit : UnitNo → List UnitNo → List Bool → List UnitNo → List Bool → Type 0
AddsUnit u units marks new_units new_marks = MatchBool (slice_index_or marks u.0 true) ((new_units ≡ units) × (new_marks ≡ marks))
    ((new_units ≡ units ++ u ∷ []) × (new_marks ≡ slice_set marks u.0 true))

abbrev pub IsMarked : List Bool → ℕ → Type 0
IsMarked marks u = slice_get marks u ≡ Some true

-- the units of the list are reached, and are those that are marked
pub record Finds (W : Parts) (units : List UnitNo) (marks : List Bool) : Type 0 where
  pub all : length marks ≡ length W.units
  pub reached : (u : UnitNo) → Contains units u → IsReached W u.0
  pub listed : (u : ℕ) → IsMarked marks u → Contains units (unit_no u)
  pub few : length units ≡ count_by (λ b. b) marks

-- a list and its marks have grown
pub record Grows (units : List UnitNo) (marks : List Bool) (new_units : List UnitNo) (new_marks : List Bool) : Type 0 where
  pub marked : (u : ℕ) → IsMarked marks u → IsMarked new_marks u
  pub kept : (i : ℕ) → i < length units → slice_get new_units i ≡ slice_get units i
  pub more : length units ≤ length new_units

-- what the first n operations of unit u create is marked
abbrev pub HasMarked : Parts → List Bool → ℕ → ℕ → Type 0
HasMarked W marks u n = (k : ℕ) → k < n → (v : UnitNo) (p : PoolNo) → op_at W u k ≡ Some (op.Create v p) → IsMarked marks v.0

-- an operation creates no unit
abbrev pub CreatesNone : Option Op → Type 0
CreatesNone (Some (op.Create v p)) = ⊥
CreatesNone _ = ⊤

-- an operation creates unit v
abbrev pub CreatesUnit : Option Op → UnitNo → Type 0
CreatesUnit (Some (op.Create u p)) v = u ≡ v
CreatesUnit _ v = ⊥

-- what unit u creates is marked
abbrev pub Closes : Parts → List Bool → ℕ → Type 0
Closes W marks u = (k : ℕ) (v : UnitNo) (p : PoolNo) → op_at W u k ≡ Some (op.Create v p) → IsMarked marks v.0

-- what the units before place n of a list create is marked
abbrev pub IsClosedBelow : Parts → List UnitNo → List Bool → ℕ → Type 0
IsClosedBelow W units marks n = (i : ℕ) (u : UnitNo) → i < n → slice_get units i ≡ Some u → Closes W marks u.0

-- Running.

abbrev pub executed : List Progress → ℕ
executed units = sum_by (λ (p : Progress). p.position) units

-- each unit's program has come as far as its flow says, through at most one point more than operations were executed, and each value is what the one operation sets that was executed
pub record FollowsFlow (W : Parts) (R : Functions) (units : List Progress) (values : List (Option ℕ)) : Type 0 where
  pub all : length units ≡ length W.units
  pub values_all : length values ≡ length W.objects
  pub made : (u : ℕ) (p : Progress) → slice_get units u ≡ Some p → AtPoint W R (suc (executed units)) u p.position (memory_in p)
  pub within : (u : ℕ) (p : Progress) → slice_get units u ≡ Some p → p.position ≤ length (ops_of (body_at W u))
  pub reached : (u : ℕ) (p : Progress) → slice_get units u ≡ Some p → 0 < p.position → IsReached W u
  pub found : (x n : ℕ) → slice_get values x ≡ Some (Some n) → SetsTo W (λ v j c. AtPoint W R (executed units) v j c) x n
  pub set : (u : ℕ) (p : Progress) (j x : ℕ) → slice_get units u ≡ Some p → j < p.position → op_at W u j ≡ Some (op.EvSet (object_no x)) → slice_get values x ≡ Some None → ⊥

-- a unit halts at its end, at a wait for an eventual without a value, and at a call that may return any word
abbrev pub Halts : Functions → List (Option ℕ) → ℕ → Progress → Option Op → Type 0
Halts R values u p None = ⊤
Halts R values u p (Some (op.EvWait x)) = slice_get values x.0 ≡ Some None
Halts R values u p (Some (op.Call f)) = R f u p.acc p.keys.items ≡ None
Halts R values u p _ = ⊥

abbrev pub Rests : Parts → Functions → List Progress → List (Option ℕ) → ℕ → Type 0
Rests W R units values u = (p : Progress) → slice_get units u ≡ Some p → Halts R values u p (op_at W u p.position)

-- each reached unit that waits for an eventual without a value is in its list
pub record Waits (W : Parts) (values : List (Option ℕ)) (waiting : List (Vec UnitNo Global)) : Type 0 where
  pub all : length waiting ≡ length W.objects
  pub reached : (x : ℕ) (us : Vec UnitNo Global) (v : UnitNo) → slice_get waiting x ≡ Some us → Contains us.items v → IsReached W v.0
  pub waits : (x : ℕ) (us : Vec UnitNo Global) (u k : ℕ) → slice_get values x ≡ Some None → slice_get waiting x ≡ Some us → IsReached W u → op_at W u k ≡ Some (op.EvWait (object_no x)) →
      Contains us.items (unit_no u)

-- unit u runs: every other that is reached is ready or rests
pub record UnitRuns (W : Parts) (R : Functions) (u : ℕ) (t : Table) : Type 0 where
  pub follows : FollowsFlow W R t.units.items t.values.items
  pub waits : Waits W t.values.items t.waiting.items
  pub ready : (v : UnitNo) → Contains t.ready.items v → IsReached W v.0
  pub others : (v : ℕ) → v ≢ u → IsReached W v → Contains t.ready.items (unit_no v) ⊎ Rests W R t.units.items t.values.items v

-- how many times units may still be run
abbrev pub runs_left : Table → ℕ
runs_left t = length t.ready.items + sum_by (λ (us : Vec UnitNo Global). length us.items) t.waiting.items

-- the next operation of unit u
abbrev pub IsNextOperation : Parts → List Progress → ℕ → Op → Type 0
IsNextOperation W units u o = (p : Progress) → slice_get units u ≡ Some p → op_at W u p.position ≡ Some o

-- unit u has no operation left
abbrev pub HasNoneLeft : Parts → List Progress → ℕ → Type 0
HasNoneLeft W units u = (p : Progress) → slice_get units u ≡ Some p → op_at W u p.position ≡ None

-- the first n operations of unit u have put it into the lists that they wait in
abbrev pub HasWaited : Parts → List (Vec UnitNo Global) → ℕ → ℕ → Type 0
HasWaited W waiting u n = (k : ℕ) → k < n → (x : ℕ) (us : Vec UnitNo Global) → op_at W u k ≡ Some (op.EvWait (object_no x)) → slice_get waiting x ≡ Some us → Contains us.items (unit_no u)

-- unit u is in the lists that its operations wait in
abbrev pub HasWaitedAll : Parts → List (Vec UnitNo Global) → ℕ → Type 0
HasWaitedAll W waiting u = (k x : ℕ) (us : Vec UnitNo Global) → op_at W u k ≡ Some (op.EvWait (object_no x)) → slice_get waiting x ≡ Some us → Contains us.items (unit_no u)

-- there is a list for each object, of units that are reached
pub record Listed (W : Parts) (waiting : List (Vec UnitNo Global)) : Type 0 where
  pub all : length waiting ≡ length W.objects
  pub reached : (x : ℕ) (us : Vec UnitNo Global) (v : UnitNo) → slice_get waiting x ≡ Some us → Contains us.items v → IsReached W v.0

-- the lists have grown
pub record Longer (waiting new : List (Vec UnitNo Global)) : Type 0 where
  pub all : length new ≡ length waiting
  pub kept : (x : ℕ) (us vs : Vec UnitNo Global) (v : UnitNo) → slice_get waiting x ≡ Some us → slice_get new x ≡ Some vs → Contains us.items v → Contains vs.items v

-- an operation waits for no eventual
abbrev pub AwaitsNone : Option Op → Type 0
AwaitsNone (Some (op.EvWait x)) = ⊥
AwaitsNone _ = ⊤

-- an operation waits for eventual x
abbrev pub AwaitsValue : Option Op → ObjectNo → Type 0
AwaitsValue (Some (op.EvWait y)) x = y ≡ x
AwaitsValue _ x = ⊥

-- every unit is at its beginning
pub record AreFresh (W : Parts) (units : List Progress) (n : ℕ) : Type 0 where
  pub all : length units ≡ n
  pub fresh : (u : ℕ) (p : Progress) → slice_get units u ≡ Some p → IsFresh W p

-- the units that are marked are those that are reached
pub record AreReached (W : Parts) (marks : List Bool) : Type 0 where
  pub all : length marks ≡ length W.units
  pub only : (u : ℕ) → IsMarked marks u → IsReached W u
  pub every : (u : ℕ) → IsReached W u → IsMarked marks u

-- unit u is at its end, if it is reached
abbrev pub IsDone : Parts → List Progress → ℕ → Type 0
IsDone W units u = (p : Progress) → slice_get units u ≡ Some p → (IsReached W u × (length (ops_of (body_at W u)) ≤ p.position)) ⊎ (IsReached W u → ⊥)

-- unit u is reached, and not at its end
abbrev pub IsStuck : Parts → List Progress → ℕ → Type 0
IsStuck W units u = IsReached W u × ((p : Progress) × (slice_get units u ≡ Some p) × (p.position < length (ops_of (body_at W u))))

-- an operation that neither sets an eventual nor waits for one, and that calls no function
abbrev pub IsOther : Op → Type 0
IsOther (op.EvWait x) = ⊥
IsOther (op.EvSet x) = ⊥
IsOther (op.Call f) = ⊥
IsOther _ = ⊤

-- every unit that is reached is ready or rests
pub record AllRun (W : Parts) (R : Functions) (t : Table) : Type 0 where
  pub follows : FollowsFlow W R t.units.items t.values.items
  pub waits : Waits W t.values.items t.waiting.items
  pub ready : (v : UnitNo) → Contains t.ready.items v → IsReached W v.0
  pub each : (v : ℕ) → IsReached W v → Contains t.ready.items (unit_no v) ⊎ Rests W R t.units.items t.values.items v

-- every unit that is reached rests
abbrev pub AllRest : Parts → Functions → Table → Type 0
AllRest W R t = FollowsFlow W R t.units.items t.values.items × ((v : ℕ) → IsReached W v → Rests W R t.units.items t.values.items v)
