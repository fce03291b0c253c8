use Rattle.abt_machine.specs.Canonical.{pool_line}
use Rattle.abt_workload.proofs.WritingLines.{line-more}
use Rattle.abt_workload.proofs.writing.push_pools.Goals as goal

pub loop-p-preserved : goal.loop-p-preserved
loop-p-preserved c = line-more pool_line c.args.w.now.pools c.loop-p.p c.pool.result c.args.out.now.items c.loop-p.out.items c.push_pool.new.out.items c.pool.ensures c.loop-p.invariant c.in_ok-push_pool.ensures
