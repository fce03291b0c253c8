-- A model that has followed a journal.
use Rattle.std.specs.Prelude.{List, length}
use Rattle.abt_machine.specs.declared.events.Event.{Event}
use Rattle.abt_machine.specs.Stored.{Stored}
use Rattle.abt_machine.specs.declared.workload.Parts.{Parts}
use Rattle.abt_machine.specs.Runs.{last_state}
use Rattle.abt_model.specs.Models.{IsAfter, ModelValue, StandsFor}

-- the model stands for the state after the journal's events
pub record HasFollowed (W : Parts) (Z : Stored) (J : List Event) (model : ModelValue) : Type 0 where
  pub state : IsAfter W Z (length J) (last_state W J)
  pub stands : StandsFor W (last_state W J) model
