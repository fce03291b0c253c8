use Rattle.abt_machine.specs.Canonical.{sched_line}
use Rattle.abt_workload.proofs.WritingLines.{line-more}
use Rattle.abt_workload.proofs.writing.push_scheds.Goals as goal

pub loop-g-preserved : goal.loop-g-preserved
loop-g-preserved c = line-more sched_line c.args.w.now.scheds c.loop-g.g c.sched.result.now c.args.out.now.items c.loop-g.out.items c.push_sched.new.out.items c.sched.ensures c.loop-g.invariant c.in_ok-push_sched.ensures
