-- What is behind in the logs of the streams before.
use Rattle.std.proofs.Common.{◌≡◌, length, take}
use Rattle.abt_streams.specs.Cutting.{behind}
use Rattle.abt_streams.proofs.logs.logs_behind.Given as goal

abbrev pub invariant-loop-s : goal.invariant-loop-s
invariant-loop-s l = record {
  logs : l.logs.items ≡ behind (take l.s l.streams) (take l.s l.lengths);
  end : l.s-end ≡ length l.streams;
}
