-- A chain may go to another thread, since its units may.
use denote.Param.Send.{IsSend, sendable}
use Rattle.std.proofs.Crossing.{Box-send}
use Rattle.abt_unit.specs.contracts.unit.Unit as Unit
use Rattle.abt_unit.proofs.Crosses.{Unit-send}
use Rattle.abt_chain.specs.contracts.chain.Chain as Chain

pub Chain-send : IsSend Chain.the_row
Chain-send = let box = Box-send Unit.the_row Unit-send in search sendable depth 30
