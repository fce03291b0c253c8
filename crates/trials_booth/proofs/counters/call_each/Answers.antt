use denote.Struct.Field.{u64-field}
use denote.Param.Send.{IsSend, sendable}
use Rattle.abt_booth.proofs.Crosses.{booth_crosses, Booth-sync}
use Rattle.trials_booth.specs.contracts.counters.Slow as Slow
use Rattle.trials_booth.specs.contracts.counters.SlowObject.TheImpl as SlowObject
use Rattle.trials_booth.proofs.counters.call_each.Goals as goal

pub for_each_mut-requires-send-T : goal.for_each_mut-requires-send-T
for_each_mut-requires-send-T g c κs within = search (booth_crosses, sendable) depth 20

pub for_each_mut-requires-sync-F : goal.for_each_mut-requires-sync-F
for_each_mut-requires-sync-F g c κs within =
    let slow : IsSend Slow.the_row = search sendable depth 20 in
    let booth = Booth-sync Slow.the_row u64-field.row u64-field.row SlowObject.ghosts slow in search sendable depth 20
