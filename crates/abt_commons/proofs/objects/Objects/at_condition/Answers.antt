-- A unit at a condition.
use Rattle.std.proofs.Common.{◌≡◌, ◌<◌, length, sym, ◌∙◌, ap, subst, rules}
use Rattle.std.specs.List.{find}
use Rattle.abt_machine.specs.Pools.{is_unit}
use Rattle.abt_machine.specs.Workloads.{IsCondition}
use Rattle.abt_chain.specs.Results.{unit_found}
use Rattle.abt_commons.specs.Held.{ObjectsValue}
use Rattle.abt_commons.specs.Reading.{waiters_at_thing}
use Rattle.abt_commons.proofs.KindsSeen.{condition-seen}
use Rattle.abt_commons.proofs.Things.{mutex-within, thing-within, may-signal, waiting-here}
use Rattle.abt_commons.proofs.objects.Objects.at_condition.Goals as goal

pub thing_number-requires : goal.thing_number-requires
thing_number-requires c =
    let s = c.self.inside in
    let is = subst (λ (held : ObjectsValue). IsCondition held.workload c.args.x.0) (sym c.self.view_is) c.requires in
    subst (λ n. n < length s.w.now.objects) (sym c.cond-cond.ensures.mutex) (mutex-within s.w.now s.ones.items s.clocks.items c.self.invariant.1 c.args.x.0 c.known.ensures is)

pub index-requires : goal.index-requires
index-requires c =
    let s = c.self.inside in
    let is = subst (λ (held : ObjectsValue). IsCondition held.workload c.args.x.0) (sym c.self.view_is) c.requires in
    let declared : c.cond-cond.result.0.0 < length s.w.now.objects =
    subst (λ n. n < length s.w.now.objects) (sym c.cond-cond.ensures.mutex) (mutex-within s.w.now s.ones.items s.clocks.items c.self.invariant.1 c.args.x.0 c.known.ensures is) in
    let within : c.thing_number.result < length s.ones.items = subst (λ n. n < length s.ones.items) (sym c.thing_number.ensures) (thing-within s.w.now s.ones.items s.clocks.items c.self.invariant.1 c.cond-cond.result.0.0 declared) in
    search (rules, within)

pub condition_waiter-requires : goal.condition_waiter-requires
condition_waiter-requires c =
    let s = c.self.inside in
    let is = subst (λ (held : ObjectsValue). IsCondition held.workload c.args.x.0) (sym c.self.view_is) c.requires in
    condition-seen c.cond-cond.result.1 c.index.result.now.object
    (may-signal s.w.now s.ones.items s.clocks.items c.self.invariant.1 c.args.x.0 c.known.ensures is c.cond-cond.result.0.0 c.thing_number.result c.cond-cond.result.1 c.index.result.now
    c.cond-cond.ensures.mutex c.cond-cond.ensures.number c.thing_number.ensures c.index.ensures)

pub returns : goal.returns
returns c =
    let s = c.self.inside in
    let is = subst (λ (held : ObjectsValue). IsCondition held.workload c.args.x.0) (sym c.self.view_is) c.requires in
    let same = waiting-here s.w.now s.ones.items s.clocks.items c.self.invariant.1 c.args.x.0 c.known.ensures is c.cond-cond.result.0.0 c.thing_number.result c.cond-cond.result.1 c.index.result.now
    c.cond-cond.ensures.mutex c.cond-cond.ensures.number c.thing_number.ensures c.index.ensures ∙ ap (λ held. waiters_at_thing held c.args.x.0) c.self.view_is in
    subst (λ units. find (is_unit c.args.u.0) units ≡ unit_found c.condition_waiter.result) same c.condition_waiter.ensures
