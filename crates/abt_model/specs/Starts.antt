-- Objects at the start of a run.
use Rattle.std.specs.Prelude.{ℕ, length}
use Rattle.abt_machine.specs.declared.workload.Parts.{Parts}
use Rattle.abt_machine.specs.Values.{Object}
use Rattle.abt_machine.specs.Workloads.{thing_at}
use Rattle.abt_calls.specs.Starts.{start_desk, start_pool, start_thing}
use Rattle.abt_replay.specs.Objects.{ObjectsValue}
use Rattle.abt_model.specs.Lists.{AreNumbered}

-- what stands at the place of a declared object; a condition has nothing of its own there
abbrev pub slot_at : Parts → ℕ → Object
slot_at W x = start_thing W x (thing_at W x)

-- pools, desks and declared objects are those of the start
pub record AreObjectsAtStart (W : Parts) (objects : ObjectsValue) : Type 0 where
  pub pools : AreNumbered (length W.pools) (start_pool W) objects.pools
  pub desks : AreNumbered (length W.units) (start_desk W) objects.desks
  pub slots : AreNumbered (length W.objects) (slot_at W) objects.slots
