use Rattle.std.proofs.Common.{length}
use Rattle.abt_streams.proofs.Standing.{Stands}
use Rattle.abt_streams.proofs.reading.read_lives.Given as goal

abbrev pub invariant-loop-rest : goal.invariant-loop-rest
invariant-loop-rest l = Stands l.w l.bytes l.lives.items l.line l.rest

abbrev pub decreases-loop-rest : goal.decreases-loop-rest
decreases-loop-rest l = length l.rest
