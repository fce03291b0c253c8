use denote.Param.Send.{sendable}
use Rattle.abt_commons.proofs.Crosses.{commons_crosses}
use Rattle.commons_caller.proofs.tests.hall_loses_no_unit.Goals as goal

pub play_on_threads-requires-send-P : goal.play_on_threads-requires-send-P
play_on_threads-requires-send-P g c κs within = search (commons_crosses, sendable) depth 20

pub play_on_threads-requires-sync-C : goal.play_on_threads-requires-sync-C
play_on_threads-requires-sync-C g c κs within = search (commons_crosses, sendable) depth 20
