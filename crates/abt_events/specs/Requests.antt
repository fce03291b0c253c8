-- What becomes of requests at a look.
use Rattle.std.specs.Prelude.{◌≡◌}
use Rattle.abt_machine.specs.declared.events.Event.{Event}
use Rattle.abt_machine.specs.declared.events.What.TheVariants as what
use Rattle.abt_machine.specs.declared.numbers.UnitNo.{UnitNo}
use Rattle.abt_machine.specs.Stored.{Stored}
use Rattle.abt_machine.specs.declared.workload.Parts.{Parts}
use Rattle.abt_machine.specs.Events.{After}
use Rattle.abt_machine.specs.Sound.{HasNoRequest}
use Rattle.abt_machine.specs.State.{State}

-- after a look nothing is asked of the unit, whatever was found
abbrev pub LooksForget : Parts → Stored → Type 0
LooksForget W Z = (S T : State) (e : Event) (u : UnitNo) → After W Z S e T → e.what ≡ what.Look u → HasNoRequest (T.desk u.0)
