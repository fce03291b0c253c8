-- An event is made that comes.
use Rattle.std.proofs.Common.{List, length}
use Rattle.abt_machine.specs.declared.events.Event.{Event}
use Rattle.abt_machine.specs.Runs.{last_state}
use Rattle.abt_machine.specs.Stored.{Stored}
use Rattle.abt_model.specs.Stored.{stored_with}
use Rattle.abt_schedule.specs.declared.reached.Reached.{Reached}
use Rattle.abt_schedule.specs.Reaching.{IsReached}
use Rattle.abt_schedule.proofs.Leading.{none-made-not, reached-made}
use Rattle.abt_schedule.proofs.reached.Reached.go_on.Goals as goal

pub unreachable-requires : goal.unreachable-requires
unreachable-requires g c =
    let W = c.args.w.now in
    let Z : Stored = stored_with c.args.z.now (g.P.Work.returns c.args.work.now) in
    let J : List Event = c.requires.reached.0 in
    let is : IsReached W Z J c.args.self.now = c.requires.reached.2 in
    let new : Reached = record { model = c.make.new.self; made = c.args.self.now.made } in
    none-made-not W Z J c.args.s.0 c.args.self.now new is c.requires.stream c.in_ok-make.field-0 c.hint-hint.result c.in-None.is
    (c.in_ok-make.ensures (length J) (last_state W J) is.state is.stands) (c.hint-hint.ensures (length J) (last_state W J) is.state is.stands)

pub returns : goal.returns
returns g c J long is =
    let W = c.args.w.now in
    let Z : Stored = stored_with c.args.z.now (g.P.Work.returns c.args.work.now) in
    let new : Reached = record { model = c.make.new.self; made = c.count.new.made } in
    reached-made W Z J c.args.s.0 c.args.self.now new is c.requires.stream c.in_ok-make.field-0 c.hint-hint.result c.in-Some.what c.in-Some.is
    (c.in_ok-make.ensures (length J) (last_state W J) is.state is.stands) c.count.ensures
