-- One rotation.
use Rattle.std.proofs.Common.{◌≡◌, ◌<◌, ◌+◌, suc, refl, sym, ◌∙◌, ap, subst, arith}
use Rattle.abt_order.specs.Stored.{IsAnsweredOrder, stored_of}
use Rattle.abt_drain.specs.Answers.{AllAnswered}
use Rattle.abt_drain.specs.Crews.{CrewValue, moment_in}
use Rattle.abt_drain.specs.Rotations.{HaveTurned}
use Rattle.abt_drain.proofs.Crewed.{from-own, own-crew, own-stepped, own-turned}
use Rattle.abt_drain.proofs.Rotating.{either, none-turned, turned-more}
use Rattle.abt_drain.proofs.Taking.{differ}
use Rattle.abt_drain.proofs.crew.Crew.rotate.Goals as goal
use Rattle.abt_drain.proofs.crew.Crew.rotate.Goals.{then-stepped, else-stepped}

pub streams-init : goal.streams-init
streams-init g c =
    let Z = stored_of c.args.orders.now (g.P.Work.returns c.args.work.now) in
    record {
      crew = c.requires.crew;
      keeps = refl;
      answers = λ all. all;
      turned = none-turned c.args.self.now.workload Z c.args.self.now.steps (moment_in c.args.self.now.workload c.args.self.now);
      none = λ first. refl;
      awake = λ first. c.requires.awake;
      stepped = λ q. differ (sym q);
    }

pub streams-preserved : goal.streams-preserved
streams-preserved g c =
    let Z = stored_of c.args.orders.now (g.P.Work.returns c.args.work.now) in
    let is : either c.streams.stepped c.in_ok-step.step ≡ c.if-stepped.stepped = elim c.if-stepped.branch [
      | then-stepped w ↦ ap (λ a. either a c.in_ok-step.step) w.if-stepped.true ∙ (sym w.if-stepped.true ∙ sym w.stepped-is)
      | else-stepped w ↦ ap (λ a. either a c.in_ok-step.step) w.if-stepped.false ∙ sym w.stepped-is
    ] in
    let next : suc c.streams.s ≡ c.streams.s + 1 = omega arith in
    record {
      crew = own-crew c.args.self.now.workload Z c.args.self.now.steps c.streams.self c.take_turns.new.self c.streams.invariant.crew c.in_ok-step.ensures.crew;
      keeps = c.in_ok-step.ensures.keeps ∙ c.streams.invariant.keeps;
      answers = λ all. from-own (λ V k. AllAnswered V (IsAnsweredOrder V c.args.orders.now) c.streams.self.streams → AllAnswered V (IsAnsweredOrder V c.args.orders.now) c.take_turns.new.self.streams) c.args.self.now.workload Z c.args.self.now.steps c.streams.self c.streams.invariant.crew c.in_ok-step.ensures.answers (c.streams.invariant.answers all);
      turned = subst (λ k. HaveTurned c.args.self.now.workload Z c.args.self.now.steps k (moment_in c.args.self.now.workload c.args.self.now) c.if-stepped.stepped (moment_in c.args.self.now.workload c.take_turns.new.self)) next
          (subst (λ b. HaveTurned c.args.self.now.workload Z c.args.self.now.steps (suc c.streams.s) (moment_in c.args.self.now.workload c.args.self.now) b (moment_in c.args.self.now.workload c.take_turns.new.self)) is
          (turned-more c.args.self.now.workload Z c.args.self.now.steps c.streams.s (moment_in c.args.self.now.workload c.args.self.now) (moment_in c.args.self.now.workload c.streams.self)
          (moment_in c.args.self.now.workload c.take_turns.new.self) c.streams.stepped c.in_ok-step.step c.streams.invariant.turned
          (own-turned c.args.self.now.workload Z c.args.self.now.steps c.streams.self c.take_turns.new.self c.streams.invariant.crew c.streams.s c.in_ok-step.step c.in_ok-step.ensures.turned)));
      none = λ first. absurd (omega arith);
      awake = λ first. absurd (omega arith);
      stepped = λ q. elim c.if-stepped.branch [
        | then-stepped w ↦ λ alone. absurd (differ (sym w.if-stepped.true ∙ c.streams.invariant.none (let lt : c.streams.s < c.args.self.now.workload.streams = subst (λ k. c.streams.s < k) (c.streams-s-end.ensures.count ∙ ap (λ (v : CrewValue). v.workload.streams) c.self.view_is) c.streams-test.true in omega arith)))
        | else-stepped w ↦ own-stepped c.args.self.now.workload Z c.args.self.now.steps c.streams.self c.take_turns.new.self c.streams.invariant.crew c.in_ok-step.step c.in_ok-step.ensures.awake (sym w.stepped-is ∙ q)
      ];
    }
