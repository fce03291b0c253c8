use Rattle.std.proofs.Common.{refl}
use Rattle.abt_machine.specs.Numbers.{sched_no}
use Rattle.abt_graph.proofs.Loops.{range-more}
use Rattle.abt_graph.proofs.workload.mains.Goals as goal

pub loop-s-preserved : goal.loop-s-preserved
loop-s-preserved c = range-more sched_no c.loop-s.mains.items c.push.new.self.items c.loop-s.s (sched_no c.loop-s.s) c.loop-s.invariant c.in_ok-push.ensures.items refl
