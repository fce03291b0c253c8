use Rattle.std.proofs.Common.{ℕ, ◌<◌, ◌≡◌, Bool, List, Some}
use Rattle.std.specs.Prelude.{slice_get}
use Rattle.abt_machine.specs.declared.numbers.PoolNo.{PoolNo}
use Rattle.abt_machine.specs.declared.workload.Parts.{Parts}
use Rattle.abt_orderly.specs.Listing.{HasListed, IsMarked}
use Rattle.abt_orderly.proofs.listing.list_pools.Given as goal

pub record Goes (W : Parts) (s k : ℕ) (pools : List PoolNo) (listed : List Bool) : Type 0 where
  pub has : HasListed W s listed
  pub more : (i : ℕ) (p : PoolNo) → i < k → slice_get pools i ≡ Some p → IsMarked listed p.0

abbrev pub invariant-loop-p : goal.invariant-loop-p
invariant-loop-p l = Goes l.w l.fn.s.0 l.p-index l.p-items l.listed
