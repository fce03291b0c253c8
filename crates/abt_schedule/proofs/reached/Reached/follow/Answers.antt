-- An event of a run is made again.
use Rattle.std.proofs.Common.{◌<◌, length, subst, sym}
use Rattle.abt_machine.specs.Runs.{last_state}
use Rattle.abt_machine.specs.Stored.{Stored}
use Rattle.abt_model.specs.Stored.{stored_with}
use Rattle.abt_schedule.specs.declared.reached.Reached.{Reached}
use Rattle.abt_schedule.proofs.Counting.{made-few}
use Rattle.abt_schedule.proofs.Leading.{last-declared, reached-followed}
use Rattle.abt_schedule.proofs.reached.Reached.follow.Goals as goal

pub follow-requires-clause-stream : goal.follow-requires-clause-stream
follow-requires-clause-stream g c =
    last-declared c.args.w.now (stored_with c.args.z.now (g.P.Work.returns c.args.work.now)) c.requires.reached.0 c.args.event.now c.requires.reached.3

pub count-requires-clause-stream : goal.count-requires-clause-stream
count-requires-clause-stream g c =
    let declared : c.args.event.now.stream.0 < c.args.w.now.streams =
    last-declared c.args.w.now (stored_with c.args.z.now (g.P.Work.returns c.args.work.now)) c.requires.reached.0 c.args.event.now c.requires.reached.3 in
    subst (λ n. c.args.event.now.stream.0 < n) (sym c.requires.reached.2.made.many) declared

pub count-requires-clause-few : goal.count-requires-clause-few
count-requires-clause-few g c k e =
    let declared : c.args.event.now.stream.0 < c.args.w.now.streams =
    last-declared c.args.w.now (stored_with c.args.z.now (g.P.Work.returns c.args.work.now)) c.requires.reached.0 c.args.event.now c.requires.reached.3 in
    made-few c.args.w.now.streams c.args.event.now.stream.0 k c.requires.reached.0 c.args.self.now.made.items c.requires.reached.2.made declared c.requires.reached.1 e

pub returns : goal.returns
returns g c J long is run =
    let Z : Stored = stored_with c.args.z.now (g.P.Work.returns c.args.work.now) in
    let new : Reached = record { model = c.follow.new.self; made = c.count.new.made } in
    reached-followed c.args.w.now Z J c.args.event.now c.args.self.now new c.in_ok-follow.field-0 is run (c.in_ok-follow.ensures (length J) (last_state c.args.w.now J) is.state is.stands) c.count.ensures
