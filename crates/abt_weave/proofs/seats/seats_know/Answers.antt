-- Seats in order.
use Rattle.abt_weave.proofs.Seating.{seats-know}
use Rattle.abt_weave.proofs.seats.seats_know.Goals as goal

pub returns : goal.returns
returns g c = seats-know c.args.seats.now c.requires
