use Rattle.std.proofs.Common.{rules, ◌≡◌, ◌≤◌, ◌-◌, length, map, reverse, take, refl, subst}
use Rattle.abt_machine.specs.Stored.{Stored}
use Rattle.abt_machine.specs.declared.operations.Side.{Side}
use Rattle.abt_machine.specs.Fronts.{side_of}
use Rattle.abt_commons.specs.Sights.{nothing_stored}
use Rattle.abt_stream.specs.Events.{VisitBy}
use Rattle.abt_stream.specs.Streams.{resting, seeing}
use Rattle.abt_stream.specs.Heeding.{Heeds}
use Rattle.abt_stream.proofs.Fitted.{turn-fits, visit-fits}
use Rattle.abt_stream.proofs.Visits.{leave-due, leave-keeps, leave-turned, place-in, round-due, visit-keeps, visit-turned}
use Rattle.abt_stream.proofs.stream.Stream.idle.Goals as goal

pub returns-then-leaves : goal.returns-then-leaves
returns-then-leaves g c =
    let both = c.leaves.ensures.leaves c.if-leaves.true in
    let framed = c.leaves.ensures.framed c.if-leaves.true in
    let empty : c.args.self.now.held.own.top.empty ≡ c.args.self.now.top.empty = search rules in
    let under : c.args.self.now.held.own.below ≡ map resting (reverse c.args.self.now.below) = search rules in
    let due = leave-due c.args.w.now c.args.self.now.number.0 c.args.self.now.held c.args.self.now.top c.args.self.now.below c.requires.idle.0 c.requires.idle.1 c.requires.idle.2 empty under both.0 both.1 in
    let turned = λ (Z : Stored). leave-turned (Heeds (g.C.Commons.moves c.args.commons.now) (g.C.Commons.workload c.args.commons.now)) c.args.w.now c.args.self.now c.args.pass.now c.leave.new.self c.args.pass.now c.leave.result due framed refl c.leave.ensures Z in
    let keeps = leave-keeps (Heeds (g.C.Commons.moves c.args.commons.now) (g.C.Commons.workload c.args.commons.now)) c.args.w.now c.args.self.now c.args.pass.now c.leave.new.self c.args.pass.now c.leave.result c.leave.ensures in
    record {
      turned = λ Z shaped. turned Z;
      pass = c.requires.pass;
      number = refl;
      keeps = keeps;
      fits = turn-fits (g.C.Commons.moves c.args.commons.now) (g.C.Commons.workload c.args.commons.now) c.args.w.now c.requires.w c.requires.valid c.args.self.now c.args.pass.now c.leave.new.self c.args.pass.now c.requires.fits keeps nothing_stored c.leave.result (turned nothing_stored);
    }

pub next_pool-p-requires : goal.next_pool-p-requires
next_pool-p-requires g c =
    let stays = c.leaves.ensures.stays c.if-leaves.false in
    let empty : c.args.self.now.held.own.top.empty ≡ c.args.self.now.top.empty = search rules in
    let under : c.args.self.now.held.own.below ≡ map resting (reverse c.args.self.now.below) = search rules in
    let due = round-due c.args.w.now c.args.self.now.number.0 c.args.self.now.held c.args.self.now.top c.args.self.now.below c.requires.idle.0 c.requires.idle.1 c.requires.idle.2 empty under stays in
    let place : c.args.self.now.at ≤ length c.args.self.now.order - 1 = search rules in
    place-in c.args.self.now.order c.args.self.now.at place (c.requires.ready.order due)

pub returns-clause-turned : goal.returns-clause-turned
returns-clause-turned g c = λ Z shaped.
    let stays = c.leaves.ensures.stays c.if-leaves.false in
    let empty : c.args.self.now.held.own.top.empty ≡ c.args.self.now.top.empty = search rules in
    let under : c.args.self.now.held.own.below ≡ map resting (reverse c.args.self.now.below) = search rules in
    let due = round-due c.args.w.now c.args.self.now.number.0 c.args.self.now.held c.args.self.now.top c.args.self.now.below c.requires.idle.0 c.requires.idle.1 c.requires.idle.2 empty under stays in
    let own : c.args.self.now.held.own.top ≡ seeing c.args.self.now.top (take c.args.self.now.at c.args.self.now.order) = search rules in
    let on : c.side-side.result ≡ side_of c.args.w.now c.args.self.now.number.0 c.next_pool-p.result.0 = search rules in
    visit-turned (Heeds (g.C.Commons.moves c.args.commons.now) (g.C.Commons.workload c.args.commons.now)) c.args.w.now c.args.self.now c.args.pass.now c.visit.new.self c.visit.new.pass
    c.next_pool-p.result own c.requires.fits c.next_pool-p.ensures due Z shaped c.visit.result
    (subst (λ (d : Side). VisitBy (Heeds (g.C.Commons.moves c.args.commons.now) (g.C.Commons.workload c.args.commons.now)) c.args.self.now c.args.pass.now c.next_pool-p.result d c.visit.result c.visit.new.self c.visit.new.pass) on c.visit.ensures.visit)

pub returns-clause-keeps : goal.returns-clause-keeps
returns-clause-keeps g c =
    let own : c.args.self.now.held.own.top ≡ seeing c.args.self.now.top (take c.args.self.now.at c.args.self.now.order) = search rules in
    visit-keeps (Heeds (g.C.Commons.moves c.args.commons.now) (g.C.Commons.workload c.args.commons.now)) c.args.w.now c.args.self.now c.args.pass.now c.visit.new.self c.visit.new.pass
    c.next_pool-p.result own c.requires.fits c.next_pool-p.ensures c.side-side.result c.visit.result c.visit.ensures.visit

pub returns-clause-fits : goal.returns-clause-fits
returns-clause-fits g c =
    visit-fits (g.C.Commons.moves c.args.commons.now) (g.C.Commons.workload c.args.commons.now) c.args.w.now c.requires.w c.requires.valid c.args.self.now c.args.pass.now c.visit.new.self c.visit.new.pass c.requires.fits
    (returns-clause-keeps g c) c.next_pool-p.result c.side-side.result c.visit.result c.requires.idle.1 c.requires.idle.2 c.visit.ensures.visit
