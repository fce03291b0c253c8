-- The turns of one stream after another.
use Rattle.std.proofs.Common.{ℕ, ◌<◌, ◌≤◌, sym, ◌∙◌, arith}
use Rattle.abt_machine.specs.Stored.{CallsStored}
use Rattle.abt_order.specs.Stored.{IsAnsweredOrder, stored_of}
use Rattle.abt_drain.specs.Answers.{AllAnswered}
use Rattle.abt_commons.specs.Held.{clock_at}
use Rattle.abt_commons.specs.Splits.{own_lock}
use Rattle.abt_drain.specs.Crews.{moment_in}
use Rattle.abt_drain.specs.Rotations.{work_at}
use Rattle.abt_waves.specs.Waves.{IsFleetOf}
use Rattle.abt_waves.proofs.Fleets.{fleet-own, own-fleet}
use Rattle.abt_waves.proofs.fleet.Fleet.by_turns.Goals as goal

pub next-requires : goal.next-requires
next-requires g c = let is = c.times.invariant.fleet in is.fleet_is.workload ∙ sym is.workload

pub go-requires : goal.go-requires
go-requires g c =
    let Z = stored_of c.args.orders.now (g.P.Work.returns c.args.work.now) in
    let is = c.times.invariant.fleet in
    record {
      several = fleet-own own_lock clock_at (λ V k. 2 ≤ V.streams) c.args.self.workload Z c.args.self.steps c.times.fleet is c.requires.several;
      calls = fleet-own own_lock clock_at (λ V k. CallsStored V (g.P.Work.count c.args.work.now)) c.args.self.workload Z c.args.self.steps c.times.fleet is c.requires.calls;
      fleet = fleet-own own_lock clock_at (λ V k. IsFleetOf own_lock clock_at V Z k c.times.fleet) c.args.self.workload Z c.args.self.steps c.times.fleet is is;
      stream = c.in-Some.ensures;
    }

after : (a b d : ℕ) → a ≤ b → b ≤ d → a ≤ d
after a b d p q = omega arith

pub times-preserved : goal.times-preserved
times-preserved g c =
    let Z = stored_of c.args.orders.now (g.P.Work.returns c.args.work.now) in
    let is = c.times.invariant.fleet in
    let own = c.args.self in
    record {
      fleet = own-fleet own_lock clock_at (λ V k. IsFleetOf own_lock clock_at V Z k c.in_ok-fleet.fleet) own.workload Z own.steps c.times.fleet is c.in_ok-fleet.ensures.fleet;
      raises_none = after (work_at own.workload own.steps (moment_in own.workload c.in_ok-fleet.fleet)) (work_at own.workload own.steps (moment_in own.workload c.times.fleet))
          (work_at own.workload own.steps (moment_in own.workload own))
          (own-fleet own_lock clock_at (λ V k. work_at V k (moment_in V c.in_ok-fleet.fleet) ≤ work_at V k (moment_in V c.times.fleet)) own.workload Z own.steps c.times.fleet is c.in_ok-fleet.ensures.raises_none)
          c.times.invariant.raises_none;
      keeps = c.in_ok-fleet.ensures.keeps ∙ c.times.invariant.keeps;
      answers = λ all. own-fleet own_lock clock_at (λ V k. AllAnswered V (IsAnsweredOrder V c.args.orders.now) c.times.fleet.streams → AllAnswered V (IsAnsweredOrder V c.args.orders.now) c.in_ok-fleet.fleet.streams)
          own.workload Z own.steps c.times.fleet is c.in_ok-fleet.ensures.answers (c.times.invariant.answers all);
    }
