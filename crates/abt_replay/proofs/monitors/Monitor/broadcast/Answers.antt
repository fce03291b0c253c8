use Rattle.abt_replay.specs.Acts.{answer_of}
use Rattle.abt_monitor.proofs.Admitting.{broadcast-is}
use Rattle.abt_replay.proofs.monitors.Monitor.broadcast.Goals as goal

pub returns : goal.returns
returns c =
    broadcast-is c.args.cond c.args.self.now c.signal.new.self _ (answer_of c.in_ok-answer.answer) c.index_mut.result.now _ _
    c.in_ok-answer.ensures c.self.view_is c.requires c.index_mut.ensures.value c.in_ok-drain_into.ensures.other c.in_ok-drain_into.ensures.drained
