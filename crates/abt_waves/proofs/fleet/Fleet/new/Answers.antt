-- The fleet at the start.
use Rattle.abt_outcomes.proofs.Stored.{orders-stored}
use Rattle.abt_drain.proofs.Answering.{started-answers}
use Rattle.abt_waves.specs.Storing.{stored_by}
use Rattle.abt_waves.proofs.Fleets.{fleet-starts}
use Rattle.abt_waves.proofs.fleet.Fleet.new.Goals as goal

pub returns-clause-fleet : goal.returns-clause-fleet
returns-clause-fleet g c = λ returns.
    let Z = stored_by (g.O.Orders.shapes c.args.orders.now) returns in
    fleet-starts g.L.Locked.lock g.L.Locked.clock c.args.w.now Z c.args.steps c.args.keeps c.in_ok-objects.objects c.in_ok-streams.streams.items c.known.ensures
    (orders-stored c.args.w.now Z c.known.ensures c.requires.orders) c.in_ok-streams.ensures.streams c.in_ok-streams.ensures.keeps c.in_ok-objects.ensures
    (g.met.L.Locked.begins c.args.w.now c.in_ok-objects.objects c.in_ok-objects.ensures)

pub returns-clause-answers : goal.returns-clause-answers
returns-clause-answers g c =
    started-answers c.args.w.now (g.O.Orders.answered c.args.orders.now c.args.w.now) c.args.steps c.args.w.now.streams c.in_ok-streams.streams.items c.in_ok-streams.ensures.streams
