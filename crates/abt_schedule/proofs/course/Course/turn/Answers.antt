-- One event more, and the end of the turn.
use Rattle.std.proofs.Common.{◌∙◌, List, subst, sym}
use Rattle.abt_machine.specs.declared.events.Event.{Event}
use Rattle.abt_machine.specs.Outcomes.{Spent}
use Rattle.abt_machine.specs.Stored.{Stored}
use Rattle.abt_model.specs.Stored.{stored_with}
use Rattle.abt_schedule.proofs.Turning.{goes-further, turned-emptied, turned-spent, turned-stepped}
use Rattle.abt_schedule.proofs.course.Course.turn.Goals as goal

pub returns-then-is_spent-clause-turned : goal.returns-then-is_spent-clause-turned
returns-then-is_spent-clause-turned g c =
    let W = c.args.w.now in
    let Z : Stored = stored_with c.args.z.now (g.P.Work.returns c.args.work.now) in
    let K : List Event = c.loop.self.events.items in
    let spent : Spent W c.loop.self.steps K c.args.s.0 = (c.is_spent.ensures Z K c.loop.invariant.course.reached).0 c.if-is_spent.true in
    turned-spent W c.args.self.now.steps c.args.s.0 c.args.self.now.events.items K c.loop.invariant.goes (subst (λ n. Spent W n K c.args.s.0) c.loop.invariant.steps spent)

pub returns-in-Stepped-clause-turned : goal.returns-in-Stepped-clause-turned
returns-in-Stepped-clause-turned g c =
    let W = c.args.w.now in
    let Z : Stored = stored_with c.args.z.now (g.P.Work.returns c.args.work.now) in
    let K : List Event = c.loop.self.events.items in
    turned-stepped W c.args.self.now.steps c.args.s.0 c.args.self.now.events.items K c.make.new.self.events.items c.in_ok-make.field-0 c.loop.invariant.goes c.in_ok-make.ensures.made
    (λ spent. let yes = (c.is_spent.ensures Z K c.loop.invariant.course.reached).1 (subst (λ n. Spent W n K c.args.s.0) (sym c.loop.invariant.steps) spent) in let no = c.if-is_spent.false in cc) c.in-Stepped.is

pub returns-in-Emptied-clause-turned : goal.returns-in-Emptied-clause-turned
returns-in-Emptied-clause-turned g c =
    let W = c.args.w.now in
    let Z : Stored = stored_with c.args.z.now (g.P.Work.returns c.args.work.now) in
    let K : List Event = c.loop.self.events.items in
    turned-emptied W c.args.self.now.steps c.args.s.0 c.args.self.now.events.items K c.make.new.self.events.items c.in_ok-make.field-0 c.loop.invariant.goes c.in_ok-make.ensures.made
    (λ spent. let yes = (c.is_spent.ensures Z K c.loop.invariant.course.reached).1 (subst (λ n. Spent W n K c.args.s.0) (sym c.loop.invariant.steps) spent) in let no = c.if-is_spent.false in cc) c.in-Emptied.is

pub loop-preserved : goal.loop-preserved
loop-preserved g c =
    let W = c.args.w.now in
    let Z : Stored = stored_with c.args.z.now (g.P.Work.returns c.args.work.now) in
    let K : List Event = c.loop.self.events.items in
    record {
      course = c.in_ok-make.ensures.course;
      steps = c.in_ok-make.ensures.steps ∙ c.loop.invariant.steps;
      goes = goes-further W c.args.self.now.steps c.args.s.0 c.args.self.now.events.items K c.make.new.self.events.items c.in_ok-make.field-0 c.loop.invariant.goes c.in_ok-make.ensures.made
          (λ spent. let yes = (c.is_spent.ensures Z K c.loop.invariant.course.reached).1 (subst (λ n. Spent W n K c.args.s.0) (sym c.loop.invariant.steps) spent) in let no = c.if-is_spent.false in cc) c.in-GoesOn.is;
    }
