-- Two streams add.
use Rattle.std.proofs.Common.{◌∷◌, ap, ◌∙◌}
use Rattle.abt_booth.specs.Seats.{gathered_of, known_of, seats_of, opening_of, number_of, seen_of}
use Rattle.booth_caller.proofs.Deliveries.{two-of, all-two, new-pair}
use Rattle.weave_caller.proofs.Added.{two-added}
use Rattle.weave_caller.proofs.adding.add_twice.Goals as goal

pub finish-requires-clause-seats : goal.finish-requires-clause-seats
finish-requires-clause-seats g c =
    all-two c.in-Ok.booth c.in-Ok.seats.items c.pop.new.self.items c.pop-2.new.self.items c.in-Some-pop.first c.call.new.seat c.in-Some.second c.call-2.new.seat (gathered_of c.gather.new.gathered) c.in-Ok.ensures.seats
    c.in-Some.ensures.items c.in-Some-pop.ensures.items c.in-Ok.ensures.booth.1 c.in-Done.ensures.number c.in-Done-call.ensures.number c.gather.ensures.number (c.gather.ensures.others _ c.retire-gathered.ensures.number)

pub returns : goal.returns
returns g c =
    let new = c.in-Ok.ensures.seats in
    let b = c.in-Ok.booth in
    let p = c.in-Some-pop.first in
    let t = c.in-Some.second in
    let p' = c.call.new.seat in
    let t' = c.call-2.new.seat in
    let two = two-of c.in-Ok.seats.items c.pop.new.self.items c.pop-2.new.self.items t p c.in-Some.ensures.items c.in-Some-pop.ensures.items (new.many ∙ c.in-Ok.ensures.booth.1) in
    let are = new-pair b c.in-Ok.seats.items p t new two in
    let known = c.gather.ensures.seats ∙ ap (λ l. known_of p' ∷ l) c.retire-gathered.ensures.seats in
    two-added (opening_of b) c.finish.result.object (seats_of b) (number_of p) (number_of t) (number_of p') (number_of t') c.in-Done.stamp c.in-Done-call.stamp c.finish.result.clock c.in-Done.answer c.in-Done-call.answer (seen_of p) (seen_of p') (seen_of t) (seen_of t') (gathered_of c.gather.new.gathered)
    (ap (λ counter. counter.sum) c.in-Ok.ensures.booth.0) c.in-Ok.ensures.booth.1 are.0 are.1 c.in-Done.ensures.number c.in-Done-call.ensures.number are.2 are.3 c.in-Done.ensures.reply c.in-Done-call.ensures.reply known c.finish.ensures
