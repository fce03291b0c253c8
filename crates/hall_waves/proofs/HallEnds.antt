-- What a run over one lock leaves.
use Rattle.std.proofs.Common.{ℕ, Bool, List}
use Rattle.abt_machine.specs.declared.events.Site.{Site}
use Rattle.abt_machine.specs.Stored.{Stored}
use Rattle.abt_machine.specs.declared.workload.Parts.{Parts}
use Rattle.abt_drain.specs.declared.run.Run.{Run}
use Rattle.abt_drain.specs.Ends.{IsLeftOf}
use Rattle.abt_drain.specs.Runs.{IsRunOf}
use Rattle.abt_waves.specs.Ends.{LeavesWaves}

-- what waves over any locks leave is of a run
pub waves-leave : {Lock : Type 0} (lock : Site → Lock) (W : Parts) (Z : Stored) (Answered : ℕ → ℕ → List ℕ → Type 0) (n : ℕ) (keeps : Bool) (left : Run) → LeavesWaves lock W Z Answered n keeps left → IsLeftOf W keeps (λ J. IsRunOf W Z n J left.outcome) left
waves-leave lock W Z Answered n keeps left leaves = record { events = leaves.events; holds = leaves.holds.0; kept = leaves.kept; pictured = leaves.pictured; counted = leaves.counted }
