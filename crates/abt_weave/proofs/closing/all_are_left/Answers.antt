-- A closed booth.
use Rattle.abt_weave.proofs.Booths.{all-are-left}
use Rattle.abt_weave.proofs.closing.all_are_left.Goals as goal

pub returns : goal.returns
returns g c = all-are-left g.M.AnyMachine.machine g.B.Object.does g.row.L.Denot
