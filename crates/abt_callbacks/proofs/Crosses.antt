-- If the fold may go to another thread, so may a future that calls it.
use denote.RattleType.{RattleType}
use denote.Param.Send.{IsSend, sendable}
use Rattle.std.proofs.Crossing.{Vec-send}
use Rattle.abt_callbacks.specs.contracts.future.CalledFuture as CalledFuture

pub CalledFuture-send : (F : RattleType) → IsSend F → IsSend (CalledFuture.the_row F)
CalledFuture-send F s = search (sendable, Vec-send) depth 20
