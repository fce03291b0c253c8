use Rattle.abt_machine.specs.Numbers.{unit_no}
use Rattle.abt_graph.proofs.Loops.{fetch-more}
use Rattle.abt_graph.proofs.workload.fetches.Goals as goal

pub loop-k-preserved : goal.loop-k-preserved
loop-k-preserved c =
    fetch-more c.args.after.now c.loop-k.k (unit_no 0) c.loop-k.ops.items c.extend_from_slice.new.self.items c.loop-k-test.true c.loop-k.invariant c.in_ok-extend_from_slice.ensures.items
