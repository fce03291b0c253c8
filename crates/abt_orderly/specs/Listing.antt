-- The pools that main schedulers list, and what comes to them.
use Rattle.std.specs.Prelude.{ℕ, ◌≡◌, ◌<◌, Bool, true, false, List, length, Some, slice_index_or, Contains, ⊤}
use Rattle.abt_machine.specs.declared.operations.Op.{Op}
use Rattle.abt_machine.specs.declared.operations.Op.TheVariants as op
use Rattle.abt_machine.specs.declared.workload.Parts.{Parts}
use Rattle.abt_machine.specs.Workloads.{main_of, op_at, pools_of, start_of}
use Rattle.abt_flow.specs.Finishing.{IsListed}

-- number n is marked
abbrev pub IsMarked : List Bool → ℕ → Type 0
IsMarked marks n = slice_index_or marks n false ≡ true

-- the pools that the main schedulers of the streams below n list are marked, and no other pool is that no main scheduler lists
pub record HasListed (W : Parts) (n : ℕ) (listed : List Bool) : Type 0 where
  pub all : length listed ≡ length W.pools
  pub only : (p : ℕ) → IsMarked listed p → IsListed W p
  pub every : (s p : ℕ) → s < n → Contains (pools_of W (main_of W s)) p → IsMarked listed p

-- the pools that are marked are those that main schedulers list
pub record AreListed (W : Parts) (listed : List Bool) : Type 0 where
  pub all : length listed ≡ length W.pools
  pub only : (p : ℕ) → IsMarked listed p → IsListed W p
  pub every : (p : ℕ) → IsListed W p → IsMarked listed p

-- an operation creates no unit in a pool that isn't listed, and is no wait for a barrier
abbrev pub IsPlacedOp : Parts → Op → Type 0
IsPlacedOp W (op.Create v p) = IsListed W p.0
IsPlacedOp W (op.BarWait x) = ⊥
IsPlacedOp W _ = ⊤

abbrev pub IsPlacedAt : Parts → ℕ → ℕ → Type 0
IsPlacedAt W u k = (o : Op) → op_at W u k ≡ Some o → IsPlacedOp W o

-- unit u starts in a listed pool, if it has a start
abbrev pub StartsWell : Parts → ℕ → Type 0
StartsWell W u = (p : ℕ) → start_of W u ≡ Some p → IsListed W p

-- unit u and all that it creates come to listed pools, and it waits for no barrier
pub record IsPlacedUnit (W : Parts) (u : ℕ) : Type 0 where
  pub ops : (k : ℕ) → IsPlacedAt W u k
  pub starts : StartsWell W u
