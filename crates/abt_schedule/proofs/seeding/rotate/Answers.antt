-- One rotation more, and the last.
use Rattle.std.proofs.Common.{◌∙◌, ◌*◌, length, subst}
use Rattle.abt_machine.specs.Stored.{Stored}
use Rattle.abt_drain.specs.Looks.{EndsWith}
use Rattle.abt_model.specs.Stored.{stored_with}
use Rattle.abt_schedule.proofs.Drawn.{order-below}
use Rattle.abt_schedule.proofs.Stopping.{rotated-last, rotated-none, rotated-stepped}
use Rattle.abt_schedule.proofs.seeding.rotate.Goals as goal

pub turns-requires-clause-streams : goal.turns-requires-clause-streams
turns-requires-clause-streams g c = order-below c.args.w.now.streams c.streams.result c.loop.words c.deref.result.now c.streams.ensures.count (c.deref.ensures.value ∙ c.in_ok-order.ensures.order)

pub loop-preserved-then-stepped : goal.loop-preserved-then-stepped
loop-preserved-then-stepped g c =
    let W = c.args.w.now in
    record {
      course = c.in_ok-stepped.ensures.course;
      steps = c.in_ok-stepped.ensures.steps ∙ c.loop.invariant.steps;
      rotations = λ seed begun.
          let before = c.loop.invariant.rotations seed begun in
          rotated-stepped W seed c.args.course.now.steps c.loop.counter c.loop.course.steps c.streams.result c.loop.words c.draw.new.words c.deref.result.now c.loop.course.events.items c.turns.new.self.events.items
          c.in_ok-stepped.stepped before c.streams.ensures.count (c.deref.ensures.value ∙ c.in_ok-order.ensures.order) c.loop.invariant.steps c.in_ok-stepped.ensures.turned c.if-stepped.true (c.in_ok-order.ensures.words seed (length W.scheds) (c.loop.counter * W.streams) before.1);
    }

pub returns-in-Some-clause-stopped : goal.returns-in-Some-clause-stopped
returns-in-Some-clause-stopped g c seed begun =
    let W = c.args.w.now in
    let Z : Stored = stored_with c.args.z.now (g.P.Work.returns c.args.work.now) in
    let before = c.loop.invariant.rotations seed begun in
    rotated-last W seed c.args.course.now.steps c.loop.counter c.loop.course.steps c.streams.result c.loop.words c.draw.new.words c.deref.result.now c.loop.course.events.items c.turns.new.self.events.items
    c.in_ok-stepped.stepped before c.streams.ensures.count (c.deref.ensures.value ∙ c.in_ok-order.ensures.order) c.loop.invariant.steps c.in_ok-stepped.ensures.turned c.if-stepped.false c.outcome.result c.in-Some.outcome c.in-Some.is
    (subst (λ n. EndsWith W n c.turns.new.self.events.items c.outcome.result) c.in_ok-stepped.ensures.steps (c.outcome.ensures Z c.turns.new.self.events.items c.in_ok-stepped.ensures.course.reached))

pub loop-preserved : goal.loop-preserved
loop-preserved g c =
    let W = c.args.w.now in
    let Z : Stored = stored_with c.args.z.now (g.P.Work.returns c.args.work.now) in
    record {
      course = c.in_ok-stepped.ensures.course;
      steps = c.in_ok-stepped.ensures.steps ∙ c.loop.invariant.steps;
      rotations = λ seed begun.
          let before = c.loop.invariant.rotations seed begun in
          rotated-none W seed c.args.course.now.steps c.loop.counter c.loop.course.steps c.streams.result c.loop.words c.draw.new.words c.deref.result.now c.loop.course.events.items c.turns.new.self.events.items
          c.in_ok-stepped.stepped before c.streams.ensures.count (c.deref.ensures.value ∙ c.in_ok-order.ensures.order) c.loop.invariant.steps c.in_ok-stepped.ensures.turned c.outcome.result c.in_default.is
          (subst (λ n. EndsWith W n c.turns.new.self.events.items c.outcome.result) c.in_ok-stepped.ensures.steps (c.outcome.ensures Z c.turns.new.self.events.items c.in_ok-stepped.ensures.course.reached))
          (c.in_ok-order.ensures.words seed (length W.scheds) (c.loop.counter * W.streams) before.1);
    }
