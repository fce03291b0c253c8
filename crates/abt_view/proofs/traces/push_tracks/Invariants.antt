use Rattle.std.proofs.Common.{◌≡◌, ◌++◌, flat_map}
use Rattle.std.specs.List.{range_with_len}
use Rattle.abt_view.specs.Trace.{track_text}
use Rattle.abt_view.proofs.traces.push_tracks.Given as goal

abbrev pub invariant-loop-s : goal.invariant-loop-s
invariant-loop-s l = l.out.items ≡ l.fn.out.items ++ flat_map track_text (range_with_len 0 l.s)
