-- What is kept beside the operations that are done, before any is done, as it is found operation by operation.
use Rattle.std.specs.Prelude.{Vec, ℕ, ◌≡◌, ◌<◌, List, length, Some, None, slice_get, Contains}
use Rattle.std.specs.declared.alloc.Global.{Global}
use Rattle.abt_machine.specs.declared.numbers.UnitNo.{UnitNo}
use Rattle.abt_machine.specs.declared.workload.Parts.{Parts}
use Rattle.abt_machine.specs.Numbers.{unit_no}
use Rattle.abt_machine.specs.Workloads.{start_of}
use Rattle.abt_flow.specs.Checks.{Prior}
use Rattle.abt_orderly.specs.declared.scanning.Standing.{Standing}
use Rattle.abt_orderly.specs.declared.scanning.Standing.TheVariants as standing
use Rattle.abt_orderly.specs.Needs.{creates_at, need_at}
use Rattle.abt_orderly.specs.Passing.{AreLists, waiters}

-- Where units stand.

-- no operation before operation k of unit u creates unit v
abbrev pub IsNotCreated : Parts → ℕ → ℕ → ℕ → Type 0
IsNotCreated W u k v = (w j : ℕ) → Prior w j u k → creates_at W w j ≡ Some (unit_no v) → ⊥

-- where unit v stands, by the operations before operation k of unit u
abbrev pub IsScanned : Parts → ℕ → ℕ → ℕ → Standing → Type 0
IsScanned W u k v standing.Unborn = (w : ℕ) × (j : ℕ) × (creates_at W w j ≡ Some (unit_no v))
IsScanned W u k v standing.Reached = IsNotCreated W u k v × ((p : ℕ) × (start_of W v ≡ Some p))
IsScanned W u k v standing.Unreached = IsNotCreated W u k v × (start_of W v ≡ None)

-- where the first n units stand
pub record HasScanned (W : Parts) (u k n : ℕ) (standing : List Standing) : Type 0 where
  pub all : length standing ≡ n
  pub each : (v : ℕ) (s : Standing) → slice_get standing v ≡ Some s → IsScanned W u k v s

-- Who waits.

-- there is a list for each need, of units, which has those that need it by an operation before operation k of unit u
pub record HasWaited (W : Parts) (u k : ℕ) (waiting : List (Vec UnitNo Global)) : Type 0 where
  pub lists : AreLists W waiting
  pub waits : (v j i : ℕ) → Prior v j u k → need_at W v j ≡ Some i → Contains (waiters waiting i) (unit_no v)

-- there is a list for each need, of units, which has those that need it
pub record HasWaitedAll (W : Parts) (waiting : List (Vec UnitNo Global)) : Type 0 where
  pub lists : AreLists W waiting
  pub waits : (v j i : ℕ) → need_at W v j ≡ Some i → Contains (waiters waiting i) (unit_no v)

-- All units.

-- the list has the units below n, and no other
pub record HasUnits (n : ℕ) (us : List UnitNo) : Type 0 where
  pub only : (u : UnitNo) → Contains us u → u.0 < n
  pub every : (u : ℕ) → u < n → Contains us (unit_no u)
