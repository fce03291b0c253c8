-- A unit that the objects hold.
use Rattle.std.proofs.Common.{subst}
use Rattle.abt_machine.specs.declared.events.Site.TheVariants as site
use Rattle.abt_machine.specs.Valid.{IsValid}
use Rattle.abt_commons.specs.Held.{ObjectsValue}
use Rattle.abt_commons.proofs.Things.{held-at, held-waiting, hold-none}
use Rattle.abt_commons.proofs.objects.Objects.find.Goals as goal

pub returns-in-Some-clause-held : goal.returns-in-Some-clause-held
returns-in-Some-clause-held c =
    let there = c.in-Some.ensures.found in
    held-at c.args.self.now c.args.u.0 (site.Pool there.0) (c.in-Some.found.0, c.in-Some.found.1.now.owned) there.1 there.2

pub returns-in-Some-at_desks-clause-held : goal.returns-in-Some-at_desks-clause-held
returns-in-Some-at_desks-clause-held c =
    let there = c.in-Some-at_desks.ensures.found in
    held-at c.args.self.now c.args.u.0 (site.Desk there.0) (c.in-Some-at_desks.found.0, c.in-Some-at_desks.found.1.now.owned) there.1 there.2

pub returns-in-Some-at_things-clause-held : goal.returns-in-Some-at_things-clause-held
returns-in-Some-at_things-clause-held c =
    held-waiting c.args.self.now c.args.u.0 (subst (λ (held : ObjectsValue). IsValid held.workload) c.self.view_is c.known.ensures) c.in-Some-at_things.x c.in-Some-at_things.unit.now.owned
    c.in-Some-at_things.ensures.found.1

pub returns-in-None-at_things-clause-none : goal.returns-in-None-at_things-clause-none
returns-in-None-at_things-clause-none c =
    hold-none c.args.self.now c.args.u.0 c.in-None.ensures.none c.in-None-at_desks.ensures.none c.in-None-at_things.ensures.none
