-- Waves one after the other.
use Rattle.abt_interleave.proofs.Carried.{times-begin, times-go-on}
use Rattle.abt_interleave.proofs.carrying.times_go_on.Goals as goal

pub returns-clause-begin : goal.returns-clause-begin
returns-clause-begin g c = times-begin g.M.AnyMachine.machine g.row.L.Denot

pub returns-clause-go : goal.returns-clause-go
returns-clause-go g c = times-go-on g.M.AnyMachine.machine g.row.L.Denot
