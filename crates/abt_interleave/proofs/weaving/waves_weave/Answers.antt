-- A wave.
use Rattle.abt_interleave.proofs.Weaves.{waves-weave}
use Rattle.abt_interleave.proofs.weaving.waves_weave.Goals as goal

pub returns : goal.returns
returns g c = waves-weave g.M.AnyMachine.machine g.row.L.Denot
