use denote.Param.Send.{sendable}
use Rattle.std.proofs.Common.{◌∙◌, ap}
use Rattle.abt_commons.specs.Held.{ObjectsValue}
use Rattle.abt_commons.proofs.Crosses.{commons_crosses}
use Rattle.commons_caller.proofs.tests.split_loses_no_unit.Goals as goal

pub play_on_threads-requires-send-P : goal.play_on_threads-requires-send-P
play_on_threads-requires-send-P g c κs within = search (commons_crosses, sendable) depth 20

pub play_on_threads-requires-sync-C : goal.play_on_threads-requires-sync-C
play_on_threads-requires-sync-C g c κs within = search (commons_crosses, sendable) depth 20

pub play_on_threads-requires-clause-workload : goal.play_on_threads-requires-clause-workload
play_on_threads-requires-clause-workload g c κs within = ap (λ (o : ObjectsValue). o.workload) c.in-Ok.ensures.objects ∙ c.requires
