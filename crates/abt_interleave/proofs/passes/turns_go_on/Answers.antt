-- One turn more.
use Rattle.abt_interleave.proofs.Passed.{turns-go-on, turns-meet}
use Rattle.abt_interleave.proofs.passes.turns_go_on.Goals as goal

pub returns-clause-deed : goal.returns-clause-deed
returns-clause-deed g c = turns-go-on g.P.AnyPass.machine g.P.AnyPass.moves

pub returns-clause-met : goal.returns-clause-met
returns-clause-met g c = turns-meet g.P.AnyPass.machine g.P.AnyPass.moves
