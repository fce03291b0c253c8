use Rattle.std.proofs.Common.{◌∙◌, ◌%◌}
use Rattle.abt_machine.specs.Acts.{Broadcast, Rested}
use Rattle.abt_chain.specs.Results.{given_or}
use Rattle.abt_monitor.proofs.Conditions.{monitors-keep-their-conditions}
use Rattle.trials_objects.proofs.monitors.MonitorTried.answer.Goals as goal

-- a broadcast makes and removes no condition
pub returns-in-Broadcast : goal.returns-in-Broadcast
returns-in-Broadcast g c =
    monitors-keep-their-conditions c.args.self.now (Broadcast (c.in-Broadcast.cond % 2)) (given_or Rested c.broadcast.result) c.broadcast.new.self c.broadcast.ensures.gives ∙ c.requires
