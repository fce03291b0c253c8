use Rattle.abt_booth.proofs.Seats.{new-seats}
use Rattle.abt_booth.proofs.booth.Booth.make.Goals as goal

pub returns-clause-all : goal.returns-clause-all
returns-clause-all g c = new-seats c.in_ok-booth.booth c.deal-seats.result.items c.deal-seats.ensures
