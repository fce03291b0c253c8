-- A closed booth.
use Rattle.abt_weave.proofs.Booths.{one-is-left}
use Rattle.abt_weave.proofs.closing.one_is_left.Goals as goal

pub returns : goal.returns
returns g c = one-is-left g.M.AnyMachine.machine g.B.Object.does g.row.L.Denot
