-- When a unit belongs to a workload.
use Rattle.std.specs.Prelude.{◌≡◌, ◌<◌, ◌≤◌, length}
use Rattle.std.specs.List.{All}
use Rattle.abt_machine.specs.declared.workload.Parts.{Parts}
use Rattle.abt_machine.specs.Pieces.{IsPieceOf}
use Rattle.abt_machine.specs.Workloads.{body_at, ops_of}
use Rattle.abt_machine.specs.Values.{Owned}

-- the unit's number and home are declared, it has the workload's keys, its position is at most the number of its operations,
-- and the words that it said are the workload's
pub record Fits (W : Parts) (o : Owned) : Type 0 where
  pub number : o.number < length W.units
  pub home : o.carried.home < length W.pools
  pub keys : length o.carried.keys ≡ W.keys
  pub position : o.carried.position ≤ length (ops_of (body_at W o.number))
  pub output : All (IsPieceOf W) o.carried.output
