-- What a desk's phase is in the machine.
use Rattle.std.specs.Prelude.{List, [], Option, Some, None, Box}
use Rattle.std.specs.declared.alloc.Global.{Global}
use Rattle.abt_machine.specs.declared.events.Shown.{Shown}
use Rattle.abt_machine.specs.declared.events.Shown.TheVariants as shows
use Rattle.abt_machine.specs.Values.{Owned}
use Rattle.abt_machine.specs.Values as value
use Rattle.abt_unit.specs.Units.{UnitValue}
use Rattle.abt_desk.specs.declared.desk.Phase.{Phase}
use Rattle.abt_desk.specs.declared.desk.Phase.TheVariants as phase

abbrev pub phase_of : Phase → value.Phase
phase_of (phase.Unborn unit) = value.Unborn unit.value.owned
phase_of phase.Out = value.Out
phase_of (phase.Suspended unit) = value.Suspended unit.value.owned
phase_of (phase.Ended unit cause) = value.Ended unit.value.owned cause

-- the units that are linked behind the one that is held
abbrev pub behind_in : Phase → List Owned
behind_in (phase.Unborn unit) = unit.value.behind
behind_in phase.Out = []
behind_in (phase.Suspended unit) = unit.value.behind
behind_in (phase.Ended unit cause) = unit.value.behind

-- the unit that is held, with how a report shows it
abbrev pub shown_in : value.Phase → Option (Shown × Owned)
shown_in (value.Unborn o) = Some (shows.Unborn, o)
shown_in value.Out = None
shown_in (value.Suspended o) = Some (shows.Suspended, o)
shown_in (value.Ended o cause) = Some (shows.Ended cause, o)

abbrev pub shown_unit : Shown × Box UnitValue Global → Shown × Owned
shown_unit held = (held.0, held.1.value.owned)
