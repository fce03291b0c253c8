use Rattle.std.proofs.Common.{arith, []}
use Rattle.abt_view.specs.Frames.{frames_in_lane}
use Rattle.abt_view.proofs.Ranges.{one-more}
use Rattle.abt_view.proofs.frames.all_frames.Goals as goal

pub loop-s-preserved : goal.loop-s-preserved
loop-s-preserved c =
    one-more (frames_in_lane c.args.journal.now) [] c.loop-s.all.items c.append.new.self.items 0 c.loop-s.s _ (omega arith) c.loop-s.invariant
    (rw c.in_ok-found.ensures at c.in_ok-append.ensures.items)
