use Rattle.abt_explore.proofs.Changing.{changes-if}
use Rattle.abt_explore.proofs.orders.may_change.Goals as goal

pub returns-then-items-gt1 : goal.returns-then-items-gt1
returns-then-items-gt1 g c =
    changes-if c.args.w.now _ c.args.g.0 c.sched-sched.result.now c.sched-sched.ensures (rw c.items.ensures at c.if-items-gt1.true) c.turns.result c.turns.ensures
