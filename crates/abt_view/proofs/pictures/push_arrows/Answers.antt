use Rattle.abt_view.specs.Shapes.{lines_in}
use Rattle.abt_view.proofs.Ranges.{one-further}
use Rattle.abt_view.proofs.pictures.push_arrows.Goals as goal

pub loop-arrow-preserved : goal.loop-arrow-preserved
loop-arrow-preserved c =
    one-further (lines_in c.args.band) c.args.out.now.items c.loop-arrow.out.items c.push_arrow_in.new.out.items c.args.arrows.now c.loop-arrow.arrow-index _ c.loop-arrow-test.true c.loop-arrow.invariant c.in_ok-push_arrow_in.ensures
