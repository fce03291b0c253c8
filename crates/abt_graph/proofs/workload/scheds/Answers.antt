use Rattle.abt_graph.specs.Workloads.{sched_for}
use Rattle.abt_graph.proofs.Loops.{range-more}
use Rattle.abt_graph.proofs.workload.scheds.Goals as goal

pub loop-s-preserved : goal.loop-s-preserved
loop-s-preserved c = range-more (sched_for c.args.streams) c.loop-s.scheds.items c.push.new.self.items c.loop-s.s c.in_ok-sched.field-0 c.loop-s.invariant c.in_ok-push.ensures.items c.in_ok-sched.ensures
