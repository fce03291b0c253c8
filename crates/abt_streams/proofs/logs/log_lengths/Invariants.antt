use Rattle.std.proofs.Common.{◌≡◌, take}
use Rattle.abt_streams.specs.Cutting.{log_lengths}
use Rattle.abt_streams.proofs.logs.log_lengths.Given as goal

abbrev pub invariant-loop-stream : goal.invariant-loop-stream
invariant-loop-stream l = l.lengths.items ≡ log_lengths (take l.stream-index l.streams)
