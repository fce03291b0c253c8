use Rattle.abt_machine.specs.declared.operations.Thing.TheVariants as thing
use Rattle.abt_graph.proofs.Loops.{copies-more}
use Rattle.abt_graph.proofs.workload.eventuals.Goals as goal

pub loop-preserved : goal.loop-preserved
loop-preserved c = copies-more c.loop.things.items c.push.new.self.items c.loop.counter thing.Eventual c.loop.invariant c.in_ok-push.ensures.items
