use Rattle.std.proofs.Common.{◌≤◌, subst}
use Rattle.abt_flow.proofs.Waiting.{longer-then, waited-all}
use Rattle.abt_flow.proofs.beginning.wait_unit.Goals as goal

pub loop-k-preserved : goal.loop-k-preserved
loop-k-preserved c = record {
  listed = c.in_ok-wait_at.ensures.listed;
  longer = longer-then c.args.waiting.now.items c.loop-k.waiting.items c.wait_at.new.waiting.items c.loop-k.invariant.longer c.in_ok-wait_at.ensures.longer;
  waited = c.in_ok-wait_at.ensures.waited;
}

pub returns-clause-waited : goal.returns-clause-waited
returns-clause-waited c = waited-all c.args.w.now c.loop-k.waiting.items c.args.u.0 c.loop-k.k (subst (λ n. n ≤ c.loop-k.k) c.ops_count-k-end.ensures c.loop-k-test.false) c.loop-k.invariant.waited
