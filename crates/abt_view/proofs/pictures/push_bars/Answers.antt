use Rattle.std.proofs.Common.{◌∙◌, ◌++◌, ap}
use Rattle.abt_view.specs.Shapes.{bar_in}
use Rattle.abt_view.proofs.Ranges.{one-further}
use Rattle.abt_view.proofs.pictures.push_bars.Goals as goal

pub loop-bar-preserved : goal.loop-bar-preserved
loop-bar-preserved c =
    one-further (bar_in c.args.band c.args.names.now) c.args.out.now.items c.loop-bar.out.items c.push_bar_in.new.out.items c.args.bars.now c.loop-bar.bar-index c.bar-item.result c.loop-bar-test.true c.loop-bar.invariant
    (c.in_ok-push_bar_in.ensures ∙ ap (λ x. c.loop-bar.out.items ++ bar_in c.args.band c.args.names.now x) c.bar-item.is)
