-- What a stream keeps while it runs.
use Rattle.abt_interleave.proofs.Prefixes.{gone-nowhere, gone-further, own-deeds-show, gone-along}
use Rattle.abt_interleave.proofs.weaving.streams_go.Goals as goal

pub returns-clause-nowhere : goal.returns-clause-nowhere
returns-clause-nowhere g c = gone-nowhere g.M.AnyMachine.machine g.row.L.Denot

pub returns-clause-further : goal.returns-clause-further
returns-clause-further g c = gone-further g.M.AnyMachine.machine g.row.L.Denot

pub returns-clause-own : goal.returns-clause-own
returns-clause-own g c = own-deeds-show g.M.AnyMachine.machine g.row.L.Denot

pub returns-clause-along : goal.returns-clause-along
returns-clause-along g c = gone-along g.M.AnyMachine.machine g.row.L.Denot
