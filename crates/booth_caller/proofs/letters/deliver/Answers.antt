use Rattle.std.proofs.Common.{◌∷◌, ap, subst, ◌∙◌}
use Rattle.abt_booth.specs.Seats.{gathered_of, known_of}
use Rattle.booth_caller.proofs.Deliveries.{all-two, sent, IsGiven}
use Rattle.booth_caller.proofs.letters.deliver.Goals as goal

pub finish-requires-clause-seats : goal.finish-requires-clause-seats
finish-requires-clause-seats g c =
    let made = c.in-Ok.made in
    let now = c.pass_on-taken.new in
    all-two made.0 made.1.items c.pop.new.self.items c.pop-2.new.self.items c.in-Some-pop.putter now.putter c.in-Some.taker now.taker (gathered_of c.gather.new.gathered) c.in-Ok.ensures.seats
    c.in-Some.ensures.items c.in-Some-pop.ensures.items c.in-Ok.ensures.booth.1 c.pass_on-taken.ensures.putter.1 c.pass_on-taken.ensures.taker.1 c.gather.ensures.number (c.gather.ensures.others _ c.retire-gathered.ensures.number)

pub unreachable-requires-in_default-taken : goal.unreachable-requires-in_default-taken
unreachable-requires-in_default-taken g c =
    let made = c.in-Ok.made in
    let now = c.pass_on-taken.new in
    let known = c.gather.ensures.seats ∙ ap (λ l. known_of now.putter ∷ l) c.retire-gathered.ensures.seats in
    subst (IsGiven c.args.letter) c.in_default-taken.is
    (sent made.0 made.1.items c.pop.new.self.items c.pop-2.new.self.items c.in-Some-pop.putter now.putter c.in-Some.taker now.taker c.args.letter c.pass_on-taken.result.0 c.pass_on-taken.result.1 c.finish.result.object c.finish.result.clock
    (gathered_of c.gather.new.gathered) c.in-Ok.ensures.seats c.in-Some.ensures.items c.in-Some-pop.ensures.items c.in-Ok.ensures.booth.1 (ap (λ tray. tray.letter) c.in-Ok.ensures.booth.0)
    c.pass_on-taken.ensures.putter.1 c.pass_on-taken.ensures.taker.1 c.pass_on-taken.ensures.passed known c.finish.ensures)

pub returns-clause-given : goal.returns-clause-given
returns-clause-given g c =
    let made = c.in-Ok.made in
    let now = c.pass_on-taken.new in
    let known = c.gather.ensures.seats ∙ ap (λ l. known_of now.putter ∷ l) c.retire-gathered.ensures.seats in
    subst (IsGiven c.args.letter) c.in-Done.is
    (sent made.0 made.1.items c.pop.new.self.items c.pop-2.new.self.items c.in-Some-pop.putter now.putter c.in-Some.taker now.taker c.args.letter c.pass_on-taken.result.0 c.pass_on-taken.result.1 c.finish.result.object c.finish.result.clock
    (gathered_of c.gather.new.gathered) c.in-Ok.ensures.seats c.in-Some.ensures.items c.in-Some-pop.ensures.items c.in-Ok.ensures.booth.1 (ap (λ tray. tray.letter) c.in-Ok.ensures.booth.0)
    c.pass_on-taken.ensures.putter.1 c.pass_on-taken.ensures.taker.1 c.pass_on-taken.ensures.passed known c.finish.ensures)
