use Rattle.std.proofs.Common.{rules}
use Rattle.abt_booth.specs.Seats.{number_of, gathered_of, seen_of, IsSeatOf, AreGatheredOf}
use Rattle.abt_booth.proofs.Gathering.{number-mine}
use Rattle.abt_booth.proofs.booth.Seat.retire.Goals as goal

pub returns-clause-number : goal.returns-clause-number
unfolding number_of gathered_of
returns-clause-number g c = number-mine c.args.self.raw.me.0

pub returns-clause-seats : goal.returns-clause-seats
unfolding number_of seen_of gathered_of
returns-clause-seats g c = search rules

pub returns-clause-booth : goal.returns-clause-booth
unfolding IsSeatOf AreGatheredOf
returns-clause-booth g c = search rules
