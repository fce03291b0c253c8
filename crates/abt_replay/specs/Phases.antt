-- Where a desk's own unit is.
use Rattle.abt_machine.specs.Values as value
use Rattle.abt_replay.specs.declared.desks.Phase.{Phase}
use Rattle.abt_replay.specs.declared.desks.Phase.TheVariants as phase

abbrev pub phase_of : Phase → value.Phase
phase_of (phase.Unborn o) = value.Unborn o
phase_of phase.Out = value.Out
phase_of (phase.Suspended o) = value.Suspended o
phase_of (phase.Ended o cause) = value.Ended o cause
