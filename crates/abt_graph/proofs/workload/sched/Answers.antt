use Rattle.std.proofs.Common.{refl}
use Rattle.abt_machine.specs.Numbers.{pool_no}
use Rattle.abt_graph.specs.Workloads.{pool_listed}
use Rattle.abt_graph.proofs.Loops.{mapped-more}
use Rattle.abt_graph.proofs.workload.sched.Goals as goal

pub loop-k-preserved : goal.loop-k-preserved
loop-k-preserved c =
    mapped-more pool_no (pool_listed c.args.streams c.args.s) c.loop-k.pools.items c.push.new.self.items c.loop-k.k (pool_no (pool_listed c.args.streams c.args.s c.loop-k.k)) c.loop-k.invariant c.in_ok-push.ensures.items refl
