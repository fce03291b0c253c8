-- The last wave.
use denote.Param.Send.{sendable}
use Rattle.std.proofs.Common.{true, replicate, refl, sym, ◌∙◌, ap}
use Rattle.abt_machine.specs.Stored.{CallsStored}
use Rattle.abt_machine.specs.declared.workload.Parts.{Parts}
use Rattle.abt_drain.specs.Answers.{AllAnswered}
use Rattle.abt_drain.specs.Crews.{moment_in}
use Rattle.abt_waves.specs.Leaving.{Lowers}
use Rattle.abt_waves.specs.Waves.{IsFleetOf}
use Rattle.abt_waves.proofs.Fleets.{fleet-own, goes-on-less, has-ended, own-fleet}
use Rattle.abt_waves.specs.Storing.{stored_by}
use Rattle.abt_waves.proofs.fleet.Fleet.run.Goals as goal

pub wave-requires : goal.wave-requires
wave-requires g c κs =
    let Z = stored_by (g.O.Orders.shapes c.args.orders.now) (g.P.Work.returns c.args.work.now) in (
      search sendable depth 20,
      (
        search sendable depth 20,
        (
          search sendable depth 20,
          (
            search sendable depth 20,
            (
              search sendable depth 20,
              (
                (refl, tt),
                (
                  fleet-own g.L.Locked.lock g.L.Locked.clock (λ V k. CallsStored V (g.P.Work.count c.args.work.now)) c.args.self.workload Z c.args.self.steps c.waves.fleet c.waves.invariant.fleet c.requires.calls,
                  (
                    fleet-own g.L.Locked.lock g.L.Locked.clock (λ V k. IsFleetOf g.L.Locked.lock g.L.Locked.clock V Z k c.waves.fleet) c.args.self.workload Z c.args.self.steps c.waves.fleet c.waves.invariant.fleet c.waves.invariant.fleet,
                    c.deref.ensures.value ∙ (c.waves.invariant.flags ∙ ap (λ (V : Parts). replicate V.streams true) (sym c.waves.invariant.fleet.workload)),
                  ),
                ),
              ),
            ),
          ),
        ),
      ),
    )

pub returns-in-Some : goal.returns-in-Some
returns-in-Some g c =
    let Z = stored_by (g.O.Orders.shapes c.args.orders.now) (g.P.Work.returns c.args.work.now) in
    record {
      ended = has-ended g.L.Locked.lock g.L.Locked.clock c.args.self.workload Z c.args.self.steps c.in_ok-fleet.fleet
          (own-fleet g.L.Locked.lock g.L.Locked.clock (λ V k. IsFleetOf g.L.Locked.lock g.L.Locked.clock V Z k c.in_ok-fleet.fleet) c.args.self.workload Z c.args.self.steps c.waves.fleet c.waves.invariant.fleet c.in_ok-fleet.ensures.fleet)
          c.in-Some.outcome c.in-Some.ensures;
      keeps = c.in_ok-fleet.ensures.keeps ∙ c.waves.invariant.keeps;
      answers = λ all. own-fleet g.L.Locked.lock g.L.Locked.clock (λ V k. AllAnswered V (g.O.Orders.answered c.args.orders.now V) c.waves.fleet.streams → AllAnswered V (g.O.Orders.answered c.args.orders.now V) c.in_ok-fleet.fleet.streams)
          c.args.self.workload Z c.args.self.steps c.waves.fleet c.waves.invariant.fleet c.in_ok-fleet.ensures.answers (c.waves.invariant.answers all);
    }

pub waves-smaller : goal.waves-smaller
waves-smaller g c =
    let Z = stored_by (g.O.Orders.shapes c.args.orders.now) (g.P.Work.returns c.args.work.now) in
    goes-on-less g.L.Locked.lock g.L.Locked.clock c.args.self.workload Z c.args.self.steps c.in_ok-fleet.fleet
    (own-fleet g.L.Locked.lock g.L.Locked.clock (λ V k. IsFleetOf g.L.Locked.lock g.L.Locked.clock V Z k c.in_ok-fleet.fleet) c.args.self.workload Z c.args.self.steps c.waves.fleet c.waves.invariant.fleet c.in_ok-fleet.ensures.fleet)
    (moment_in c.args.self.workload c.waves.fleet)
    (own-fleet g.L.Locked.lock g.L.Locked.clock (λ V k. Lowers V k (moment_in V c.waves.fleet) (moment_in V c.in_ok-fleet.fleet)) c.args.self.workload Z c.args.self.steps c.waves.fleet c.waves.invariant.fleet c.in_ok-fleet.ensures.lowers)
    c.in-None.ensures

pub waves-preserved : goal.waves-preserved
waves-preserved g c =
    let Z = stored_by (g.O.Orders.shapes c.args.orders.now) (g.P.Work.returns c.args.work.now) in
    record {
      fleet = own-fleet g.L.Locked.lock g.L.Locked.clock (λ V k. IsFleetOf g.L.Locked.lock g.L.Locked.clock V Z k c.in_ok-fleet.fleet) c.args.self.workload Z c.args.self.steps c.waves.fleet c.waves.invariant.fleet c.in_ok-fleet.ensures.fleet;
      keeps = c.in_ok-fleet.ensures.keeps ∙ c.waves.invariant.keeps;
      answers = λ all. own-fleet g.L.Locked.lock g.L.Locked.clock (λ V k. AllAnswered V (g.O.Orders.answered c.args.orders.now V) c.waves.fleet.streams → AllAnswered V (g.O.Orders.answered c.args.orders.now V) c.in_ok-fleet.fleet.streams)
          c.args.self.workload Z c.args.self.steps c.waves.fleet c.waves.invariant.fleet c.in_ok-fleet.ensures.answers (c.waves.invariant.answers all);
      flags = c.waves.invariant.flags;
    }
