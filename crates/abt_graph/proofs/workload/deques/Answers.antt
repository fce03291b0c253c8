use Rattle.abt_graph.specs.Workloads.{deque}
use Rattle.abt_graph.proofs.Loops.{copies-more}
use Rattle.abt_graph.proofs.workload.deques.Goals as goal

pub loop-preserved : goal.loop-preserved
loop-preserved c = copies-more c.loop.pools.items c.push.new.self.items c.loop.counter deque c.loop.invariant c.in_ok-push.ensures.items
