-- A hall may be shared by the threads of a wave.
use denote.RattleType.{RattleType}
use denote.Param.Send.{IsSync, sendable}
use denote.Ref.{NamedLft}
use Rattle.abt_commons.proofs.Crosses.{Hall-sync}
use Rattle.hall_waves.specs.contracts.hall.OneLock as OneLock

pub OneLock-sync : (a : NamedLft) (R : RattleType) → IsSync R → IsSync (OneLock.the_row a R)
OneLock-sync a R s = let hall = Hall-sync a R s in search sendable depth 30
