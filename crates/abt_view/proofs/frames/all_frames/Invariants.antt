use Rattle.std.proofs.Common.{◌≡◌, flat_map}
use Rattle.std.specs.List.{range_with_len}
use Rattle.abt_view.specs.Frames.{frames_in_lane}
use Rattle.abt_view.proofs.frames.all_frames.Given as goal

abbrev pub invariant-loop-s : goal.invariant-loop-s
invariant-loop-s l = l.all.items ≡ flat_map (frames_in_lane l.journal) (range_with_len 0 l.s)
