-- The run goes on by the event.
use Rattle.std.proofs.Common.{◌≡◌, ◌∙◌, suc, ◌<◌, ◌+◌, ◌^◌, List, arith, length, refl}
use Rattle.abt_machine.specs.declared.events.Event.{Event}
use Rattle.abt_model.specs.Stored.{stored_with}
use Rattle.abt_schedule.specs.declared.course.Course.{Course}
use Rattle.abt_schedule.proofs.Going.{course-more, pushed-next}
use Rattle.abt_schedule.proofs.course.Course.make.Goals as goal

pub returns-clause-course : goal.returns-clause-course
returns-clause-course g c =
    let J : List Event = c.args.self.now.events.items in
    let count : c.len.result ≡ length J = c.len.ensures ∙ c.args.self.now.events.ok.0 in
    let stamp : c.len.result + 1 ≡ suc (length J) = omega arith in
    let few : length J < 2 ^ 63 = omega (arith, c.args.self.now.events.ok.0, c.args.self.now.events.ok.1, c.args.self.now.events.small) in
    let new : Course = record { events = c.push.new.self; reached = c.go_on.new.self; steps = c.args.self.now.steps } in
    course-more c.args.w.now (stored_with c.args.z.now (g.P.Work.returns c.args.work.now)) c.args.s.0 c.in_ok-what.what c.args.self.now new c.requires.course c.requires.able
    (pushed-next J c.push.new.self.items (c.len.result + 1) c.args.s c.in_ok-what.what stamp c.in_ok-push.ensures.items)
    (c.in_ok-what.ensures J few c.requires.course.reached) refl
