use Rattle.std.proofs.Common.{arith}
use Rattle.abt_explore.proofs.Changing.{none-changes, one-more, untrue}
use Rattle.abt_explore.proofs.orders.first_changing.Goals as goal

pub loop-g-preserved : goal.loop-g-preserved
loop-g-preserved g c = one-more c.args.w.now _ c.loop-g.g c.loop-g.invariant (λ may. untrue (c.if-may_change.ensures.1 may))

pub returns-clause-keeps : goal.returns-clause-keeps
returns-clause-keeps g c = none-changes c.args.w.now _ (λ k within may. c.loop-g.invariant k (let all = c.scheds-g-end.ensures in let end = c.loop-g-test.false in omega (arith, within, all, end)) may)
