use Rattle.abt_why.specs.Cycles.{cycle_from}
use Rattle.abt_why.proofs.Walking.{one-cycle-more}
use Rattle.abt_why.proofs.cycles.push_all.Goals as goal

pub loop-u-preserved : goal.loop-u-preserved
loop-u-preserved c =
    one-cycle-more (cycle_from c.args.awaited.now) c.loop-u.u _ c.args.out.now.items c.loop-u.out.items c.push_some.new.out.items c.loop-u.invariant c.in_ok-cycle_from.ensures c.in_ok-push_some.ensures
