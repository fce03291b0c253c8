use Rattle.abt_chain.specs.Results.{given_or}
use Rattle.abt_machine.specs.Acts.{Rested}
use Rattle.abt_monitor.proofs.Admitting.{broadcast-is}
use Rattle.abt_monitor.proofs.monitor.Monitor.broadcast.Goals as goal

pub returns-clause-gives : goal.returns-clause-gives
returns-clause-gives c =
    broadcast-is c.args.cond c.args.self.now c.signal-woken.new.self _ (given_or Rested c.signal-woken.result) c.index_mut.result.now _ _ c.signal-woken.ensures.gives
    c.self.view_is c.requires c.index_mut.ensures.value c.drain_into.ensures.appended c.drain_into.ensures.drained
