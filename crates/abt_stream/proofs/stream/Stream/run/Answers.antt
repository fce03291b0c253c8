use Rattle.std.proofs.Common.{◌≡◌, Some, refl, subst, ◌∙◌}
use Rattle.abt_machine.specs.declared.operations.Op.{Op}
use Rattle.abt_machine.specs.Workloads.{op_at}
use Rattle.abt_stream.specs.Events.{IfHeld}
use Rattle.abt_stream.specs.Heeding.{Heeds}
use Rattle.abt_stream.specs.Turned.{Turned}
use Rattle.abt_stream.proofs.Turning.{call-keeps, call-turned, end-due, end-keeps, end-turned, enter-body, enter-due, enter-keeps, enter-turned, step-due, step-keeps, step-op, step-turned}
use Rattle.abt_stream.proofs.stream.Stream.run.Goals as goal

pub returns-in-End-clause-turned : goal.returns-in-End-clause-turned
returns-in-End-clause-turned g c = λ Z stored.
    let due = end-due c.args.w.now c.args.self.now.number.0 c.args.self.now.held c.hand_due.result c.requires.tray c.requires.next c.args.self.now.held.hand c.in-End.cause refl c.hand_due.ensures c.in-End.is in
    end-turned (Heeds (g.C.Commons.moves c.args.commons.now) (g.C.Commons.workload c.args.commons.now)) c.args.w.now c.args.self.now c.args.pass.now c.end.new.self c.end.new.pass Z c.args.self.now.held.hand c.in-End.cause c.end.result refl due c.end.ensures.end

pub returns-in-End-clause-keeps : goal.returns-in-End-clause-keeps
returns-in-End-clause-keeps g c = end-keeps (Heeds (g.C.Commons.moves c.args.commons.now) (g.C.Commons.workload c.args.commons.now)) c.args.w.now c.args.self.now c.args.pass.now c.end.new.self c.end.new.pass c.args.self.now.held.hand c.in-End.cause c.end.result c.end.ensures.end

pub returns-in-Enter-clause-turned : goal.returns-in-Enter-clause-turned
returns-in-Enter-clause-turned g c = λ Z stored.
    let due = enter-due c.args.w.now c.args.self.now.number.0 c.args.self.now.held c.hand_due.result c.requires.tray c.requires.next c.args.self.now.held.hand c.in-Enter.g refl c.hand_due.ensures c.in-Enter.is in
    let bodied = enter-body c.args.w.now c.args.self.now.number.0 c.args.self.now.held c.hand_due.result c.requires.tray c.requires.next c.args.self.now.held.hand c.in-Enter.g c.hand_due.ensures c.in-Enter.is in
    enter-turned (Heeds (g.C.Commons.moves c.args.commons.now) (g.C.Commons.workload c.args.commons.now)) c.args.w.now c.args.self.now c.args.pass.now c.enter.new.self c.args.pass.now Z c.args.self.now.held.hand c.in-Enter.g c.enter.result refl due bodied refl c.enter.ensures

pub returns-in-Enter-clause-keeps : goal.returns-in-Enter-clause-keeps
returns-in-Enter-clause-keeps g c =
    let bodied = enter-body c.args.w.now c.args.self.now.number.0 c.args.self.now.held c.hand_due.result c.requires.tray c.requires.next c.args.self.now.held.hand c.in-Enter.g c.hand_due.ensures c.in-Enter.is in
    enter-keeps (Heeds (g.C.Commons.moves c.args.commons.now) (g.C.Commons.workload c.args.commons.now)) c.args.w.now c.args.self.now c.args.pass.now c.enter.new.self c.args.pass.now c.args.self.now.held.hand c.in-Enter.g c.enter.result bodied c.requires.order c.enter.ensures

pub returns-in-Some-clause-turned : goal.returns-in-Some-clause-turned
returns-in-Some-clause-turned g c = λ Z stored.
    let due = step-due c.args.w.now c.args.self.now.number.0 c.args.self.now.held c.hand_due.result c.requires.tray c.requires.next c.args.self.now.held.hand c.in-Step.op refl c.hand_due.ensures c.in-Step.is in
    let at = step-op c.args.w.now c.args.self.now.number.0 c.args.self.now.held c.hand_due.result c.requires.tray c.requires.next c.args.self.now.held.hand c.in-Step.op c.hand_due.ensures c.in-Step.is in
    let few = c.may_step.ensures.few c.if-not-may_step.false in
    let calls = subst (λ (a : Op). IfHeld c.args.self.now.held.hand (λ o. op_at c.args.w.now o.number o.carried.position ≡ Some a)) c.in-Some.ensures.some at in
    call-turned (Heeds (g.C.Commons.moves c.args.commons.now) (g.C.Commons.workload c.args.commons.now)) c.args.w.now c.args.self.now c.args.pass.now c.call.new.self c.rest.new.pass Z
    (g.P.Work.returns c.args.work.now) stored c.in-Some.function c.args.self.now.held.hand c.call.result refl few due calls (c.rest.ensures.same ∙ c.announce.ensures.same) c.call.ensures

pub returns-in-Some-clause-keeps : goal.returns-in-Some-clause-keeps
returns-in-Some-clause-keeps g c = call-keeps (Heeds (g.C.Commons.moves c.args.commons.now) (g.C.Commons.workload c.args.commons.now)) c.args.w.now c.args.self.now c.args.pass.now c.call.new.self c.rest.new.pass
    c.args.self.now.held.hand (g.P.Work.returns c.args.work.now c.in-Some.function) c.call.result c.call.ensures

pub returns-in-None-clause-turned : goal.returns-in-None-clause-turned
returns-in-None-clause-turned g c = λ Z stored.
    let due = step-due c.args.w.now c.args.self.now.number.0 c.args.self.now.held c.hand_due.result c.requires.tray c.requires.next c.args.self.now.held.hand c.in-Step.op refl c.hand_due.ensures c.in-Step.is in
    let at = step-op c.args.w.now c.args.self.now.number.0 c.args.self.now.held c.hand_due.result c.requires.tray c.requires.next c.args.self.now.held.hand c.in-Step.op c.hand_due.ensures c.in-Step.is in
    let few = c.may_step.ensures.few c.if-not-may_step.false in
    let heeds = Heeds (g.C.Commons.moves c.args.commons.now) (g.C.Commons.workload c.args.commons.now) in
    subst (λ p. Turned heeds c.args.w.now Z c.args.self.now p c.operate.result c.operate.new.self c.operate.new.pass) c.announce.ensures.same
    (step-turned heeds c.args.w.now c.args.self.now c.announce.new.pass c.operate.new.self c.operate.new.pass Z
    c.args.self.now.held.hand c.in-Step.op c.operate.result refl few due at (c.called.ensures.none c.in-None.is) c.operate.ensures.step)

pub returns-in-None-clause-keeps : goal.returns-in-None-clause-keeps
returns-in-None-clause-keeps g c = step-keeps (Heeds (g.C.Commons.moves c.args.commons.now) (g.C.Commons.workload c.args.commons.now)) c.args.w.now c.args.self.now c.announce.new.pass c.operate.new.self c.operate.new.pass
    c.args.self.now.held.hand c.in-Step.op c.operate.result c.operate.ensures.step
