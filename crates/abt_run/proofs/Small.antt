-- Runs are small.
use Rattle.std.proofs.Common.{◌≤◌, List, length}
use Rattle.abt_machine.specs.declared.events.Event.{Event}
use Rattle.abt_machine.specs.declared.workload.Parts.{Parts}
use Rattle.abt_machine.specs.Runs.{Run as IsRun}
use Rattle.abt_machine.specs.Stored.{Stored}
use Rattle.abt_machine.specs.Valid.{IsValid}
use Rattle.abt_outcomes.proofs.Stored.{orders-stored}
use Rattle.abt_sizes.specs.Laws.{IsSmall}
use Rattle.abt_sizes.proofs.Runs.{runs-are-small}

-- with the orders that a call has
pub run-is-small : (W : Parts) (Z : Stored) → IsValid W → 2 ≤ length Z.orders → (J : List Event) → IsRun W Z J → IsSmall W J
run-is-small W Z valid two J run = runs-are-small W Z valid (orders-stored W Z valid two) J run
