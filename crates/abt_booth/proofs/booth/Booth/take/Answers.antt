use Rattle.std.proofs.Common.{rules, subst}
use Rattle.abt_booth.specs.Rule.{Takes, SeatState}
use Rattle.abt_booth.proofs.booth.Booth.take.Goals as goal

pub returns-in-Ok-clause-turn : goal.returns-in-Ok-clause-turn
returns-in-Ok-clause-turn g c =
    subst (λ (m : SeatState g.row.O.Denot g.row.O-Act.Denot g.row.O-Answer.Denot). Takes g.O.Object.does m c.try_take.new.seat.me) c.loop.invariant.2 (search rules)
