-- Turns of a stream with a pass.
use Rattle.abt_interleave.proofs.Passed.{turns-are-gone}
use Rattle.abt_interleave.proofs.passes.turns_are_gone.Goals as goal

pub returns : goal.returns
returns g c = turns-are-gone g.P.AnyPass.machine g.P.AnyPass.moves g.P.AnyPass.own g.row.L.Denot
