use Rattle.std.proofs.Common.{refl}
use Rattle.abt_machine.specs.Numbers.{unit_no}
use Rattle.abt_graph.proofs.Loops.{range-from}
use Rattle.abt_graph.proofs.shapes.inner_node.Goals as goal

pub loop-k-preserved : goal.loop-k-preserved
loop-k-preserved c = range-from unit_no c.loop-k.after.items c.push.new.self.items _ c.loop-k.k _ c.loop-k.invariant c.in_ok-push.ensures.items refl
