use denote.Struct.Field.{u64-field}
use denote.Param.Send.{IsSend, sendable}
use Rattle.abt_booth.proofs.Crosses.{booth_crosses, Booth-sync}
use Rattle.booth_caller.specs.contracts.counter.Counter as Counter
use Rattle.booth_caller.specs.contracts.counter.CounterObject.TheImpl as CounterObject
use Rattle.trials_booth.proofs.holders.take_turns_on_threads.Goals as goal

pub for_each_mut-requires-send-T : goal.for_each_mut-requires-send-T
for_each_mut-requires-send-T g c κs within = search (booth_crosses, sendable) depth 20

pub for_each_mut-requires-sync-F : goal.for_each_mut-requires-sync-F
for_each_mut-requires-sync-F g c κs within =
    let counter : IsSend Counter.the_row = search sendable depth 20 in
    let booth = Booth-sync Counter.the_row u64-field.row u64-field.row CounterObject.ghosts counter in search sendable depth 20
