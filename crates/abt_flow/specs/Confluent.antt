-- When what a workload's units put out does not depend on the schedule, if each function that they call returns one word.
use Rattle.std.specs.Prelude.{ℕ, ◌≡◌, Some, None, ⊤}
use Rattle.abt_machine.specs.declared.numbers.ObjectNo.{ObjectNo}
use Rattle.abt_machine.specs.declared.numbers.PoolNo.{PoolNo}
use Rattle.abt_machine.specs.declared.numbers.UnitNo.{UnitNo}
use Rattle.abt_machine.specs.declared.operations.Access.{Access}
use Rattle.abt_machine.specs.declared.operations.Access.TheVariants as access
use Rattle.abt_machine.specs.declared.operations.Op.{Op}
use Rattle.abt_machine.specs.declared.operations.Op.TheVariants as op
use Rattle.abt_machine.specs.declared.workload.Parts.{Parts}
use Rattle.abt_machine.specs.Workloads.{access_of, op_at, start_of}
use Rattle.abt_flow.specs.Effects.{FlowEffect, Computes, Calls, Awaits, Depends, effect}

-- the effect does not depend on the schedule
abbrev pub IsSettled : FlowEffect → Type 0
IsSettled (Computes f) = ⊤
IsSettled (Calls f) = ⊤
IsSettled (Awaits x) = ⊤
IsSettled Depends = ⊥

-- every stream may put into a pool of this access
abbrev pub IsOpen : Access → Type 0
IsOpen (access.Priv a) = ⊥
IsOpen (access.Spsc a b) = ⊥
IsOpen (access.Mpsc b) = ⊤
IsOpen (access.Spmc a) = ⊥
IsOpen access.Mpmc = ⊤

pub record Confluent (W : Parts) : Type 0 where
  -- no operation depends on the schedule
  pub ops : (u k : ℕ) (o : Op) → op_at W u k ≡ Some o → IsSettled (effect o)
  -- at most one operation sets each eventual
  pub sets_once : (u v k j : ℕ) (x : ObjectNo) → op_at W u k ≡ Some (op.EvSet x) → op_at W v j ≡ Some (op.EvSet x) → (u ≡ v) × (k ≡ j)
  -- at most one operation creates each unit
  pub creates_once : (u v k j : ℕ) (t : UnitNo) (p q : PoolNo) → op_at W u k ≡ Some (op.Create t p) → op_at W v j ≡ Some (op.Create t q) → (u ≡ v) × (k ≡ j)
  -- and none creates a unit that has a start
  pub creates_later : (u k : ℕ) (t : UnitNo) (p : PoolNo) → op_at W u k ≡ Some (op.Create t p) → start_of W t.0 ≡ None
  -- units are created in pools that every stream may put into
  pub creates_open : (u k : ℕ) (t : UnitNo) (p : PoolNo) → op_at W u k ≡ Some (op.Create t p) → IsOpen (access_of W p.0)
