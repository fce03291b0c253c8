-- Rotations.
use Rattle.std.proofs.Common.{Some, None, ◌∙◌}
use Rattle.abt_order.specs.Stored.{IsAnsweredOrder, stored_of}
use Rattle.abt_drain.specs.Answers.{AllAnswered}
use Rattle.abt_drain.specs.Crews.{IsCrew, moment_in}
use Rattle.abt_drain.specs.Rotations.{HaveTurned}
use Rattle.abt_drain.proofs.Crewed.{from-own, own-crew, own-end, own-rotated, own-stepped}
use Rattle.abt_drain.proofs.Stopping.{goes-on-awake, goes-on-less, goes-on-rotated, has-stopped}
use Rattle.abt_drain.proofs.crew.Crew.run.Goals as goal

pub returns-in-Some-clause-stopped : goal.returns-in-Some-clause-stopped
returns-in-Some-clause-stopped g c =
    let Z = stored_of c.args.orders.now (g.P.Work.returns c.args.work.now) in
    let later : IsCrew c.args.self.now.workload Z c.args.self.now.steps c.rotate.new.self =
    own-crew c.args.self.now.workload Z c.args.self.now.steps c.rotations.self c.rotate.new.self c.rotations.invariant.crew c.in_ok-stepped.ensures.crew in
    has-stopped c.args.self.now.workload Z c.args.self.now.steps c.rotations.self c.rotate.new.self c.rotations.invariant.crew later c.in_ok-stepped.stepped
    (own-rotated c.args.self.now.workload Z c.args.self.now.steps c.rotations.self c.rotate.new.self c.rotations.invariant.crew c.in_ok-stepped.stepped c.in_ok-stepped.ensures.turned)
    c.rotations.invariant.rotated c.in-Some.outcome (own-end c.args.self.now.workload Z c.args.self.now.steps c.rotate.new.self c.rotate.new.self later c.in_ok-stepped.stepped (Some c.in-Some.outcome) c.in-Some.ensures)

pub rotations-smaller : goal.rotations-smaller
rotations-smaller g c =
    let Z = stored_of c.args.orders.now (g.P.Work.returns c.args.work.now) in
    let later : IsCrew c.args.self.now.workload Z c.args.self.now.steps c.rotate.new.self =
    own-crew c.args.self.now.workload Z c.args.self.now.steps c.rotations.self c.rotate.new.self c.rotations.invariant.crew c.in_ok-stepped.ensures.crew in
    goes-on-less c.args.self.now.workload Z c.args.self.now.steps c.rotations.self c.rotate.new.self c.rotations.invariant.crew later c.in_ok-stepped.stepped
    (own-rotated c.args.self.now.workload Z c.args.self.now.steps c.rotations.self c.rotate.new.self c.rotations.invariant.crew c.in_ok-stepped.stepped c.in_ok-stepped.ensures.turned)
    (own-end c.args.self.now.workload Z c.args.self.now.steps c.rotate.new.self c.rotate.new.self later c.in_ok-stepped.stepped None c.in-None.ensures)
    c.rotations.invariant.fresh

pub rotations-preserved : goal.rotations-preserved
rotations-preserved g c =
    let Z = stored_of c.args.orders.now (g.P.Work.returns c.args.work.now) in
    let later : IsCrew c.args.self.now.workload Z c.args.self.now.steps c.rotate.new.self =
    own-crew c.args.self.now.workload Z c.args.self.now.steps c.rotations.self c.rotate.new.self c.rotations.invariant.crew c.in_ok-stepped.ensures.crew in
    let turned : HaveTurned c.args.self.now.workload Z c.args.self.now.steps c.args.self.now.workload.streams (moment_in c.args.self.now.workload c.rotations.self) c.in_ok-stepped.stepped (moment_in c.args.self.now.workload c.rotate.new.self) =
    own-rotated c.args.self.now.workload Z c.args.self.now.steps c.rotations.self c.rotate.new.self c.rotations.invariant.crew c.in_ok-stepped.stepped c.in_ok-stepped.ensures.turned in
    record {
      crew = later;
      keeps = c.in_ok-stepped.ensures.keeps ∙ c.rotations.invariant.keeps;
      answers = λ all. from-own (λ V k. AllAnswered V (IsAnsweredOrder V c.args.orders.now) c.rotations.self.streams → AllAnswered V (IsAnsweredOrder V c.args.orders.now) c.rotate.new.self.streams) c.args.self.now.workload Z c.args.self.now.steps c.rotations.self c.rotations.invariant.crew c.in_ok-stepped.ensures.answers (c.rotations.invariant.answers all);
      fresh = turned.fresh;
      rotated = goes-on-rotated c.args.self.now.workload Z c.args.self.now.steps c.rotations.self c.rotate.new.self c.rotations.invariant.crew later c.in_ok-stepped.stepped turned
          (own-end c.args.self.now.workload Z c.args.self.now.steps c.rotate.new.self c.rotate.new.self later c.in_ok-stepped.stepped None c.in-None.ensures) c.rotations.invariant.rotated;
      awake = goes-on-awake c.args.self.now.workload Z c.args.self.now.steps c.rotations.self c.rotate.new.self c.rotations.invariant.crew later c.in_ok-stepped.stepped turned
          (own-end c.args.self.now.workload Z c.args.self.now.steps c.rotate.new.self c.rotate.new.self later c.in_ok-stepped.stepped None c.in-None.ensures)
          (own-stepped c.args.self.now.workload Z c.args.self.now.steps c.rotations.self c.rotate.new.self c.rotations.invariant.crew c.in_ok-stepped.stepped c.in_ok-stepped.ensures.awake);
    }

pub returns-in-Some-clause-answers : goal.returns-in-Some-clause-answers
returns-in-Some-clause-answers g c =
    let Z = stored_of c.args.orders.now (g.P.Work.returns c.args.work.now) in
    λ all. from-own (λ V k. AllAnswered V (IsAnsweredOrder V c.args.orders.now) c.rotations.self.streams → AllAnswered V (IsAnsweredOrder V c.args.orders.now) c.rotate.new.self.streams) c.args.self.now.workload Z c.args.self.now.steps c.rotations.self c.rotations.invariant.crew c.in_ok-stepped.ensures.answers (c.rotations.invariant.answers all)
