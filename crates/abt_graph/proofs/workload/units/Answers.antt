use Rattle.abt_graph.specs.Workloads.{node_unit}
use Rattle.abt_graph.proofs.Loops.{numbered-more}
use Rattle.abt_graph.proofs.workload.units.Goals as goal

pub loop-u-preserved : goal.loop-u-preserved
loop-u-preserved c =
    numbered-more (node_unit c.args.streams) c.args.nodes.now c.loop-u.u c.index-nodes-u.result c.loop-u.units.items c.push.new.self.items c.in_ok-unit.field-0 c.loop-u-test.true c.index-nodes-u.is c.loop-u.invariant c.in_ok-push.ensures.items c.in_ok-unit.ensures
