-- Turns of one stream, and waves.
use denote.Param.Send.{sendable}
use Rattle.std.proofs.Common.{ℕ, ◌<◌, ◌≤◌, true, replicate, refl, sym, ◌∙◌, ap, arith}
use Rattle.abt_machine.specs.Stored.{CallsStored}
use Rattle.abt_machine.specs.declared.workload.Parts.{Parts}
use Rattle.abt_order.specs.Stored.{IsAnsweredOrder, stored_of}
use Rattle.abt_drain.specs.Answers.{AllAnswered}
use Rattle.abt_commons.proofs.Crosses.{Split-sync, SplitPass-send}
use Rattle.abt_commons.specs.Held.{clock_at}
use Rattle.abt_commons.specs.Splits.{own_lock}
use Rattle.abt_drain.specs.Crews.{moment_in}
use Rattle.abt_drain.specs.Rotations.{work_at}
use Rattle.abt_waves.specs.Leaving.{Lowers}
use Rattle.abt_waves.specs.Waves.{IsFleetOf}
use Rattle.abt_waves.proofs.Crosses.{StoredOrders-sync, vtable-sync}
use Rattle.abt_waves.proofs.Fleets.{fleet-own, goes-on-less, has-ended, own-fleet}
use Rattle.abt_waves.proofs.fleet.Fleet.run_split.Goals as goal

pub unshared-requires : goal.unshared-requires
unshared-requires g c =
    let Z = stored_of c.args.orders.now (g.P.Work.returns c.args.work.now) in
    let is = c.waves.invariant.fleet in
    record {
      several = fleet-own own_lock clock_at (λ V k. 2 ≤ V.streams) c.args.self.workload Z c.args.self.steps c.waves.fleet is c.requires.several;
      calls = fleet-own own_lock clock_at (λ V k. CallsStored V (g.P.Work.count c.args.work.now)) c.args.self.workload Z c.args.self.steps c.waves.fleet is c.requires.calls;
      fleet = fleet-own own_lock clock_at (λ V k. IsFleetOf own_lock clock_at V Z k c.waves.fleet) c.args.self.workload Z c.args.self.steps c.waves.fleet is is;
    }

pub wave-requires : goal.wave-requires
wave-requires g c κs =
    let Z = stored_of c.args.orders.now (g.P.Work.returns c.args.work.now) in
    let is : IsFleetOf own_lock clock_at c.args.self.workload Z c.args.self.steps c.in_ok-fleet.fleet =
    own-fleet own_lock clock_at (λ V k. IsFleetOf own_lock clock_at V Z k c.in_ok-fleet.fleet) c.args.self.workload Z c.args.self.steps c.waves.fleet c.waves.invariant.fleet c.in_ok-fleet.ensures.fleet in (
      search (SplitPass-send, sendable) depth 30,
      (
        search sendable depth 30,
        (
          search sendable depth 30,
          (
            search (StoredOrders-sync, vtable-sync, g.dyn-1.3, sendable) depth 30,
            (
              search (Split-sync, sendable) depth 30,
              (
                (refl, tt),
                (
                  fleet-own own_lock clock_at (λ V k. CallsStored V (g.P.Work.count c.args.work.now)) c.args.self.workload Z c.args.self.steps c.in_ok-fleet.fleet is c.requires.calls,
                  (
                    fleet-own own_lock clock_at (λ V k. IsFleetOf own_lock clock_at V Z k c.in_ok-fleet.fleet) c.args.self.workload Z c.args.self.steps c.in_ok-fleet.fleet is is,
                    c.deref.ensures.value ∙ (c.waves.invariant.flags ∙ ap (λ (V : Parts). replicate V.streams true) (sym is.workload)),
                  ),
                ),
              ),
            ),
          ),
        ),
      ),
    )

pub returns-in-Some : goal.returns-in-Some
returns-in-Some g c =
    let Z = stored_of c.args.orders.now (g.P.Work.returns c.args.work.now) in
    let one : IsFleetOf own_lock clock_at c.args.self.workload Z c.args.self.steps c.in_ok-fleet.fleet =
    own-fleet own_lock clock_at (λ V k. IsFleetOf own_lock clock_at V Z k c.in_ok-fleet.fleet) c.args.self.workload Z c.args.self.steps c.waves.fleet c.waves.invariant.fleet c.in_ok-fleet.ensures.fleet in
    record {
      ended = has-ended own_lock clock_at c.args.self.workload Z c.args.self.steps c.in_ok-fleet.fleet one c.in-Some.outcome c.in-Some.ensures;
      keeps = c.in_ok-fleet.ensures.keeps ∙ c.waves.invariant.keeps;
      answers = λ all. own-fleet own_lock clock_at (λ V k. AllAnswered V (IsAnsweredOrder V c.args.orders.now) c.waves.fleet.streams → AllAnswered V (IsAnsweredOrder V c.args.orders.now) c.in_ok-fleet.fleet.streams)
          c.args.self.workload Z c.args.self.steps c.waves.fleet c.waves.invariant.fleet c.in_ok-fleet.ensures.answers (c.waves.invariant.answers all);
    }

pub returns-in-Some-ended : goal.returns-in-Some-ended
returns-in-Some-ended g c =
    let Z = stored_of c.args.orders.now (g.P.Work.returns c.args.work.now) in
    let one : IsFleetOf own_lock clock_at c.args.self.workload Z c.args.self.steps c.in_ok-fleet.fleet =
    own-fleet own_lock clock_at (λ V k. IsFleetOf own_lock clock_at V Z k c.in_ok-fleet.fleet) c.args.self.workload Z c.args.self.steps c.waves.fleet c.waves.invariant.fleet c.in_ok-fleet.ensures.fleet in
    let two : IsFleetOf own_lock clock_at c.args.self.workload Z c.args.self.steps c.in_ok-fleet-2.fleet =
    own-fleet own_lock clock_at (λ V k. IsFleetOf own_lock clock_at V Z k c.in_ok-fleet-2.fleet) c.args.self.workload Z c.args.self.steps c.in_ok-fleet.fleet one c.in_ok-fleet-2.ensures.fleet in
    record {
      ended = has-ended own_lock clock_at c.args.self.workload Z c.args.self.steps c.in_ok-fleet-2.fleet two c.in-Some-ended.end c.in-Some-ended.ensures;
      keeps = c.in_ok-fleet-2.ensures.keeps ∙ (c.in_ok-fleet.ensures.keeps ∙ c.waves.invariant.keeps);
      answers = λ all. own-fleet own_lock clock_at (λ V k. AllAnswered V (IsAnsweredOrder V c.args.orders.now) c.in_ok-fleet.fleet.streams → AllAnswered V (IsAnsweredOrder V c.args.orders.now) c.in_ok-fleet-2.fleet.streams)
          c.args.self.workload Z c.args.self.steps c.in_ok-fleet.fleet one c.in_ok-fleet-2.ensures.answers
          (own-fleet own_lock clock_at (λ V k. AllAnswered V (IsAnsweredOrder V c.args.orders.now) c.waves.fleet.streams → AllAnswered V (IsAnsweredOrder V c.args.orders.now) c.in_ok-fleet.fleet.streams)
          c.args.self.workload Z c.args.self.steps c.waves.fleet c.waves.invariant.fleet c.in_ok-fleet.ensures.answers (c.waves.invariant.answers all));
    }

pub waves-smaller : goal.waves-smaller
waves-smaller g c =
    let Z = stored_of c.args.orders.now (g.P.Work.returns c.args.work.now) in
    let one : IsFleetOf own_lock clock_at c.args.self.workload Z c.args.self.steps c.in_ok-fleet.fleet =
    own-fleet own_lock clock_at (λ V k. IsFleetOf own_lock clock_at V Z k c.in_ok-fleet.fleet) c.args.self.workload Z c.args.self.steps c.waves.fleet c.waves.invariant.fleet c.in_ok-fleet.ensures.fleet in
    let two : IsFleetOf own_lock clock_at c.args.self.workload Z c.args.self.steps c.in_ok-fleet-2.fleet =
    own-fleet own_lock clock_at (λ V k. IsFleetOf own_lock clock_at V Z k c.in_ok-fleet-2.fleet) c.args.self.workload Z c.args.self.steps c.in_ok-fleet.fleet one c.in_ok-fleet-2.ensures.fleet in
    let most : work_at c.args.self.workload c.args.self.steps (moment_in c.args.self.workload c.in_ok-fleet.fleet) ≤ work_at c.args.self.workload c.args.self.steps (moment_in c.args.self.workload c.waves.fleet) =
    own-fleet own_lock clock_at (λ V k. work_at V k (moment_in V c.in_ok-fleet.fleet) ≤ work_at V k (moment_in V c.waves.fleet)) c.args.self.workload Z c.args.self.steps c.waves.fleet c.waves.invariant.fleet c.in_ok-fleet.ensures.raises_none in
    let lowers : Lowers c.args.self.workload c.args.self.steps (moment_in c.args.self.workload c.in_ok-fleet.fleet) (moment_in c.args.self.workload c.in_ok-fleet-2.fleet) =
    own-fleet own_lock clock_at (λ V k. Lowers V k (moment_in V c.in_ok-fleet.fleet) (moment_in V c.in_ok-fleet-2.fleet)) c.args.self.workload Z c.args.self.steps c.in_ok-fleet.fleet one c.in_ok-fleet-2.ensures.lowers in
    let less : work_at c.args.self.workload c.args.self.steps (moment_in c.args.self.workload c.in_ok-fleet-2.fleet) < work_at c.args.self.workload c.args.self.steps (moment_in c.args.self.workload c.in_ok-fleet.fleet) =
    goes-on-less own_lock clock_at c.args.self.workload Z c.args.self.steps c.in_ok-fleet-2.fleet two (moment_in c.args.self.workload c.in_ok-fleet.fleet) lowers c.in-None.ensures in
    shorter (work_at c.args.self.workload c.args.self.steps (moment_in c.args.self.workload c.in_ok-fleet-2.fleet)) (work_at c.args.self.workload c.args.self.steps (moment_in c.args.self.workload c.in_ok-fleet.fleet))
    (work_at c.args.self.workload c.args.self.steps (moment_in c.args.self.workload c.waves.fleet)) less most where
      shorter : (a b d : ℕ) → a < b → b ≤ d → a < d
      shorter a b d p q = omega arith

pub waves-preserved : goal.waves-preserved
waves-preserved g c =
    let Z = stored_of c.args.orders.now (g.P.Work.returns c.args.work.now) in
    let one : IsFleetOf own_lock clock_at c.args.self.workload Z c.args.self.steps c.in_ok-fleet.fleet =
    own-fleet own_lock clock_at (λ V k. IsFleetOf own_lock clock_at V Z k c.in_ok-fleet.fleet) c.args.self.workload Z c.args.self.steps c.waves.fleet c.waves.invariant.fleet c.in_ok-fleet.ensures.fleet in
    record {
      fleet = own-fleet own_lock clock_at (λ V k. IsFleetOf own_lock clock_at V Z k c.in_ok-fleet-2.fleet) c.args.self.workload Z c.args.self.steps c.in_ok-fleet.fleet one c.in_ok-fleet-2.ensures.fleet;
      keeps = c.in_ok-fleet-2.ensures.keeps ∙ (c.in_ok-fleet.ensures.keeps ∙ c.waves.invariant.keeps);
      answers = λ all. own-fleet own_lock clock_at (λ V k. AllAnswered V (IsAnsweredOrder V c.args.orders.now) c.in_ok-fleet.fleet.streams → AllAnswered V (IsAnsweredOrder V c.args.orders.now) c.in_ok-fleet-2.fleet.streams)
          c.args.self.workload Z c.args.self.steps c.in_ok-fleet.fleet one c.in_ok-fleet-2.ensures.answers
          (own-fleet own_lock clock_at (λ V k. AllAnswered V (IsAnsweredOrder V c.args.orders.now) c.waves.fleet.streams → AllAnswered V (IsAnsweredOrder V c.args.orders.now) c.in_ok-fleet.fleet.streams)
          c.args.self.workload Z c.args.self.steps c.waves.fleet c.waves.invariant.fleet c.in_ok-fleet.ensures.answers (c.waves.invariant.answers all));
      flags = c.waves.invariant.flags;
    }
