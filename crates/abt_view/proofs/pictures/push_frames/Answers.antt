use Rattle.abt_view.specs.Shapes.{frame_in}
use Rattle.abt_view.proofs.Ranges.{one-further}
use Rattle.abt_view.proofs.pictures.push_frames.Goals as goal

pub loop-frame-preserved : goal.loop-frame-preserved
loop-frame-preserved c =
    one-further (frame_in c.args.band) c.args.out.now.items c.loop-frame.out.items c.push_frame_in.new.out.items c.args.frames.now c.loop-frame.frame-index _ c.loop-frame-test.true c.loop-frame.invariant c.in_ok-push_frame_in.ensures
