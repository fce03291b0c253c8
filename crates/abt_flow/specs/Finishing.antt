-- Workloads each of whose runs finishes, whatever the schedule.
use Rattle.std.specs.Prelude.{ℕ, suc, ◌≡◌, ◌<◌, ◌≤◌, length, Contains, List, Some}
use Rattle.abt_machine.specs.declared.events.Event.{Event}
use Rattle.abt_machine.specs.declared.events.Outcome.{Outcome}
use Rattle.abt_machine.specs.declared.events.Outcome.TheVariants as outcome
use Rattle.abt_machine.specs.declared.numbers.ObjectNo.{ObjectNo}
use Rattle.abt_machine.specs.declared.numbers.PoolNo.{PoolNo}
use Rattle.abt_machine.specs.declared.numbers.UnitNo.{UnitNo}
use Rattle.abt_machine.specs.declared.operations.Op.TheVariants as op
use Rattle.abt_machine.specs.declared.workload.Parts.{Parts}
use Rattle.abt_machine.specs.Outcomes.{AllEnded, EndsAs, Quiet}
use Rattle.abt_machine.specs.Rounds.{OrdersStored}
use Rattle.abt_machine.specs.Runs.{Run, last_state}
use Rattle.abt_machine.specs.Stored.{Stored}
use Rattle.abt_machine.specs.Valid.{IsValid}
use Rattle.abt_machine.specs.Workloads.{body_at, main_of, op_at, ops_of, pools_of, start_of}
use Rattle.abt_bounds.specs.Laws.{HasNoFreeCall, ops_in}
use Rattle.abt_flow.specs.Confluent.{Confluent}
use Rattle.abt_flow.specs.Flow.{IsReached}

-- some stream's main scheduler lists the pool
abbrev pub IsListed : Parts → ℕ → Type 0
IsListed W p = (s : ℕ) × (s < W.streams) × Contains (pools_of W (main_of W s)) p

-- how many operations unit u has
abbrev pub op_count : Parts → ℕ → ℕ
op_count W u = length (ops_of (body_at W u))

-- The end of a unit counts as one operation more, behind the last one. Each operation has a rank, and what it needs has a lower one.
pub record IsRanked (W : Parts) (rank : ℕ → ℕ → ℕ) : Type 0 where
  -- an operation needs those before it
  pub rises : (u k : ℕ) → k < op_count W u → rank u k < rank u (suc k)
  -- the first operation of a unit that is created needs the operation that creates it
  pub creates : (u k : ℕ) (t : UnitNo) (p : PoolNo) → op_at W u k ≡ Some (op.Create t p) → rank u k < rank t.0 0
  -- a wait for an eventual needs an operation of a reached unit that sets it
  pub waits : (u k : ℕ) (x : ObjectNo) → op_at W u k ≡ Some (op.EvWait x) → (v : ℕ) × (j : ℕ) × IsReached W v × (op_at W v j ≡ Some (op.EvSet x)) × (rank v j < rank u k)
  -- a join needs the end of its unit, which is reached
  pub joins : (u k : ℕ) (v : UnitNo) → op_at W u k ≡ Some (op.Join v) → IsReached W v.0 × (rank v.0 (op_count W v.0) < rank u k)

-- what units do does not depend on the schedule, each unit comes to a pool that a main scheduler lists, and no operation waits for one that waits for it
pub record IsOrderly (W : Parts) : Type 0 where
  pub confluent : Confluent W
  pub starts : (u p : ℕ) → start_of W u ≡ Some p → IsListed W p
  pub created : (u k : ℕ) (t : UnitNo) (p : PoolNo) → op_at W u k ≡ Some (op.Create t p) → IsListed W p.0
  pub no_barrier : (u k : ℕ) (x : ObjectNo) → op_at W u k ≡ Some (op.BarWait x) → ⊥
  pub rank : ℕ → ℕ → ℕ
  pub ranked : IsRanked W rank

-- The laws. W is a workload and Z what is stored beside it.

-- in each run of an orderly workload, if nothing is left to do, every unit is unborn or ended
abbrev pub OrderlyEnd : Parts → Stored → Type 0
OrderlyEnd W Z = IsValid W → OrdersStored W Z.orders → HasNoFreeCall W Z → IsOrderly W → (J : List Event) → Run W Z J → Quiet W (last_state W J) → AllEnded (last_state W J)

-- each run of an orderly workload that ended has finished, if a stream may make as many steps as there are operations
abbrev pub OrderlyFinish : Parts → Stored → Type 0
OrderlyFinish W Z = IsValid W → OrdersStored W Z.orders → HasNoFreeCall W Z → IsOrderly W → (n : ℕ) (J : List Event) (o : Outcome) → ops_in W ≤ n → Run W Z J → EndsAs W n J o → o ≡ outcome.Finished
