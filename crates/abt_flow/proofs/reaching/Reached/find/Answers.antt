use Rattle.std.proofs.Common.{◌≤◌, subst}
use Rattle.abt_flow.proofs.Finds.{all-marked}
use Rattle.abt_flow.proofs.reaching.Reached.find.Goals as goal

pub returns-clause-all : goal.returns-clause-all
returns-clause-all c =
    all-marked c.args.w.now c.loop-at.reached.units.items c.loop-at.reached.marks.items c.loop-at.at c.loop-at.invariant.finds
    (subst (λ n. n ≤ c.loop-at.at) c.units-at-end.ensures c.loop-at-test.false) c.loop-at.invariant.starts c.loop-at.invariant.closed
