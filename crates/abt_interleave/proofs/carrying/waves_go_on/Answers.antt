-- Waves one after the other.
use Rattle.abt_interleave.proofs.Carried.{waves-begin, waves-go-on}
use Rattle.abt_interleave.proofs.carrying.waves_go_on.Goals as goal

pub returns-clause-begin : goal.returns-clause-begin
returns-clause-begin g c = waves-begin g.M.AnyMachine.machine g.row.L.Denot

pub returns-clause-go : goal.returns-clause-go
returns-clause-go g c = waves-go-on g.M.AnyMachine.machine g.row.L.Denot
