-- What units put out by their programs alone: a recursion over units, without pools, streams or waiting.
use Rattle.std.specs.Prelude.{ℕ, zero, suc, ◌≡◌, ◌%◌, ◌^◌, ◌⊎◌, List, [], length, Option, Some, None, slice_get}
use Rattle.abt_machine.specs.declared.events.Piece.{Piece}
use Rattle.abt_machine.specs.declared.numbers.PoolNo.{PoolNo}
use Rattle.abt_machine.specs.declared.operations.Op.{Op}
use Rattle.abt_machine.specs.declared.operations.Op.TheVariants as op
use Rattle.abt_machine.specs.declared.workload.Parts.{Parts}
use Rattle.abt_machine.specs.Numbers.{object_no, unit_no}
use Rattle.abt_machine.specs.Workloads.{body_at, op_at, ops_of, start_of}
use Rattle.abt_bounds.specs.Laws.{ops_in}
use Rattle.abt_flow.specs.Effects.{Memory, FlowEffect, Computes, Calls, Awaits, Depends, effect, fresh, with_acc}

-- a unit is reached that has a start, or that an operation of a reached unit creates
pub data IsReached (W : Parts) : ℕ → Type 0 where
  Starts : (u p : ℕ) → start_of W u ≡ Some p → IsReached W u
  Created : (u v k : ℕ) (p : PoolNo) → IsReached W v → op_at W v k ≡ Some (op.Create (unit_no u) p) → IsReached W u

-- what a function of this number returns for a unit with this number, accumulator and keys, any word if there is none
abbrev pub Functions : Type 0
Functions = ℕ → ℕ → ℕ → List ℕ → Option ℕ

-- R is what functions return, and Found x n says that eventual x has value n.

-- a memory becomes another by an effect that unit u has; a call is followed only if it may return no other word
abbrev pub Becomes : Functions → ℕ → (ℕ → ℕ → Type 0) → FlowEffect → Memory → Memory → Type 0
Becomes R u Found (Computes f) old new = new ≡ f old
Becomes R u Found (Calls f) old new = (n : ℕ) × (R f u old.acc old.keys ≡ Some n) × (new ≡ with_acc (n % 2 ^ 64) old)
Becomes R u Found (Awaits x) old new = (n : ℕ) × Found x n × (new ≡ with_acc n old)
Becomes R u Found Depends old new = ⊥

-- a memory becomes another by an operation of unit u
abbrev pub Executes : Functions → ℕ → (ℕ → ℕ → Type 0) → Option Op → Memory → Memory → Type 0
Executes R u Found None old new = ⊥
Executes R u Found (Some o) old new = Becomes R u Found (effect o) old new

-- the operations of unit u before operation k lead to this memory, one after the other
abbrev pub Made : Parts → Functions → (ℕ → ℕ → Type 0) → ℕ → ℕ → Memory → Type 0
Made W R Found u zero m = m ≡ fresh W
Made W R Found u (suc k) m = (old : Memory) × Made W R Found u k old × Executes R u Found (op_at W u k) old m

-- the value of eventual x is acc at the operation of a reached unit that sets x
abbrev pub SetsTo : Parts → (ℕ → ℕ → Memory → Type 0) → ℕ → ℕ → Type 0
SetsTo W At x n = (v : ℕ) × (k : ℕ) × (m : Memory) × IsReached W v × (op_at W v k ≡ Some (op.EvSet (object_no x))) × At v k m × (m.acc ≡ n)

-- unit u has this memory before operation k: the point (u, k) and each chain of eventuals from it pass at most f points
abbrev pub AtPoint : Parts → Functions → ℕ → ℕ → ℕ → Memory → Type 0
AtPoint W R zero u k m = ⊥
AtPoint W R (suc f) u k m = Made W R (SetsTo W (λ v j c. AtPoint W R f v j c)) u k m

-- the output of a unit at its end, through at most one point more than there are operations
abbrev pub PutsOut : Parts → Functions → ℕ → List Piece → Type 0
PutsOut W R u row = (m : Memory) × AtPoint W R (suc (ops_in W)) u (length (ops_of (body_at W u))) m × (m.output ≡ row)

-- a reached unit has its output, any other has none
abbrev pub IsRow : Parts → Functions → ℕ → List Piece → Type 0
IsRow W R u row = (IsReached W u × PutsOut W R u row) ⊎ ((IsReached W u → ⊥) × (row ≡ []))

-- these are the outputs of all units, in order of number
pub record IsFlow (W : Parts) (R : Functions) (rows : List (List Piece)) : Type 0 where
  pub one_each : length rows ≡ length W.units
  pub each : (u : ℕ) (row : List Piece) → slice_get rows u ≡ Some row → IsRow W R u row
