use Rattle.abt_view.specs.Trace.{points_text}
use Rattle.abt_view.proofs.Ranges.{one-further}
use Rattle.abt_view.proofs.traces.push_arrows.Goals as goal

pub loop-arrow-preserved : goal.loop-arrow-preserved
loop-arrow-preserved c =
    one-further points_text c.args.out.now.items c.loop-arrow.out.items c.push_points.new.out.items c.args.arrows.now c.loop-arrow.arrow-index _ c.loop-arrow-test.true c.loop-arrow.invariant c.in_ok-push_points.ensures
