-- A call of a booth.
use Rattle.abt_weave.proofs.Booths.{answers-show}
use Rattle.abt_weave.proofs.calls.answers_show.Goals as goal

pub returns : goal.returns
returns g c = answers-show g.M.AnyMachine.machine g.B.Object.does g.row.L.Denot
