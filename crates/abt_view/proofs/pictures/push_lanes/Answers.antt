use Rattle.std.proofs.Common.{arith}
use Rattle.abt_view.specs.Picture.{lane_text}
use Rattle.abt_view.proofs.Ranges.{one-more}
use Rattle.abt_view.proofs.pictures.push_lanes.Goals as goal

pub loop-s-preserved : goal.loop-s-preserved
loop-s-preserved c = one-more lane_text _ c.loop-s.out.items c.push_lane.new.out.items 0 c.loop-s.s _ (omega arith) c.loop-s.invariant c.in_ok-push_lane.ensures
