use Rattle.std.proofs.Common.{◌≡◌, ◌++◌, take}
use Rattle.abt_source.specs.RealSink.{remembered}
use Rattle.abt_source.proofs.put.remember.Given as goal

abbrev pub invariant-loop-byte : goal.invariant-loop-byte
invariant-loop-byte l = remembered l.last ≡ remembered l.fn.last ++ take l.byte-index l.bytes
