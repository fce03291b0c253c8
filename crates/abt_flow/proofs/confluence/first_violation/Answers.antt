use Rattle.std.proofs.Common.{◌≤◌, subst}
use Rattle.abt_flow.proofs.Clearing.{clears-all}
use Rattle.abt_flow.proofs.confluence.first_violation.Goals as goal

pub returns-clause-confluent : goal.returns-clause-confluent
returns-clause-confluent c = clears-all c.args.w.now c.loop-u.u c.loop-u.seen (subst (λ n. n ≤ c.loop-u.u) c.units-u-end.ensures c.loop-u-test.false) c.loop-u.invariant
