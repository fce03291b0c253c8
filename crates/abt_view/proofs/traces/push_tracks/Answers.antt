use Rattle.std.proofs.Common.{arith}
use Rattle.abt_view.specs.Trace.{track_text}
use Rattle.abt_view.proofs.Ranges.{one-more}
use Rattle.abt_view.proofs.traces.push_tracks.Goals as goal

pub loop-s-preserved : goal.loop-s-preserved
loop-s-preserved c = one-more track_text _ c.loop-s.out.items c.push_track.new.out.items 0 c.loop-s.s _ (omega arith) c.loop-s.invariant c.in_ok-push_track.ensures
