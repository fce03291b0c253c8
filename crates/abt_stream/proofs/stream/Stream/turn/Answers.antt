use Rattle.std.proofs.Common.{rules, ◌≡◌, ◌≢◌, [], Some, refl, sym, subst}
use Rattle.abt_machine.specs.Stored.{Stored}
use Rattle.abt_machine.specs.declared.workload.Parts.{Parts}
use Rattle.abt_unit.specs.Fits.{Fits}
use Rattle.abt_commons.specs.Sights.{nothing_stored}
use Rattle.abt_stream.specs.Events.{IfFirst}
use Rattle.abt_stream.specs.Heeding.{Heeds}
use Rattle.abt_stream.proofs.Able.{tray-fits}
use Rattle.abt_stream.proofs.Fitted.{turn-fits}
use Rattle.abt_stream.proofs.Turning.{look-keeps, look-turned, put-keeps, put-turned}
use Rattle.abt_stream.proofs.Visits.{look-due, put-due}
use Rattle.abt_stream.proofs.stream.Stream.turn.Goals as goal

pub put-requires : goal.put-requires
put-requires g c κs =
    let some : c.args.self.now.held.tray ≢ [] = search rules in
    let fits = tray-fits c.args.w.now c.args.self.now c.args.self.now.held.tray refl c.requires.fits.units some in (
      (refl, tt),
      (
        c.requires.pass,
        (subst (λ (W : Parts). IfFirst c.args.self.now.held.tray (λ o os. Fits W o)) (sym c.requires.w) fits, c.requires.ready.events),
      ),
    )

pub returns-then-not-is_empty : goal.returns-then-not-is_empty
returns-then-not-is_empty g c =
    let some : c.args.self.now.held.tray ≢ [] = search rules in
    let due = put-due c.args.w.now c.args.self.now.number.0 c.args.self.now.held c.args.self.now.held.tray refl some in
    let turned = λ (Z : Stored). put-turned (Heeds (g.C.Commons.moves c.args.commons.now) (g.C.Commons.workload c.args.commons.now)) c.args.w.now c.args.self.now c.args.pass.now c.put.new.self c.put.new.pass Z c.args.self.now.held.tray c.put.result refl due c.put.ensures.put in
    let keeps = put-keeps (Heeds (g.C.Commons.moves c.args.commons.now) (g.C.Commons.workload c.args.commons.now)) c.args.w.now c.args.self.now c.args.pass.now c.put.new.self c.put.new.pass c.args.self.now.held.tray c.put.result c.put.ensures.put in
    record {
      turned = λ Z shaped stored. turned Z;
      stream = keeps.number;
      keeps = keeps.keeps;
      budget = keeps.budget;
      fits = turn-fits (g.C.Commons.moves c.args.commons.now) (g.C.Commons.workload c.args.commons.now) c.args.w.now c.requires.w c.known.ensures c.args.self.now c.args.pass.now c.put.new.self c.put.new.pass c.requires.fits keeps nothing_stored c.put.result (turned nothing_stored);
      shapes = keeps.shapes;
      follows = keeps.follows;
      pass = c.put.ensures.pass;
      number = c.put.ensures.number;
    }

pub returns-in-Taken : goal.returns-in-Taken
returns-in-Taken g c =
    let tray : c.args.self.now.held.tray ≡ [] = search rules in
    let next : c.args.self.now.held.next ≡ Some c.in-Taken.field-0.value.owned = search rules in
    let due = look-due c.args.w.now c.args.self.now.number.0 c.args.self.now.held c.in-Taken.field-0.value.owned tray next in
    let turned = λ (Z : Stored). look-turned (Heeds (g.C.Commons.moves c.args.commons.now) (g.C.Commons.workload c.args.commons.now)) c.args.w.now c.args.self.now c.args.pass.now c.look.new.self c.look.new.pass Z c.args.self.now.held.next c.look.result refl due c.look.ensures.look in
    let keeps = look-keeps (Heeds (g.C.Commons.moves c.args.commons.now) (g.C.Commons.workload c.args.commons.now)) c.args.w.now c.args.self.now c.args.pass.now c.look.new.self c.look.new.pass c.args.self.now.held.next c.look.result c.look.ensures.look in
    record {
      turned = λ Z shaped stored. turned Z;
      stream = keeps.number;
      keeps = keeps.keeps;
      budget = keeps.budget;
      fits = turn-fits (g.C.Commons.moves c.args.commons.now) (g.C.Commons.workload c.args.commons.now) c.args.w.now c.requires.w c.known.ensures c.args.self.now c.args.pass.now c.look.new.self c.look.new.pass c.requires.fits keeps nothing_stored c.look.result (turned nothing_stored);
      shapes = keeps.shapes;
      follows = keeps.follows;
      pass = c.look.ensures.pass;
      number = c.look.ensures.number;
    }

pub returns-in-Running-clause-fits : goal.returns-in-Running-clause-fits
returns-in-Running-clause-fits g c =
    let Z : Stored = record { orders = []; returns = g.P.Work.returns c.args.work.now } in
    turn-fits (g.C.Commons.moves c.args.commons.now) (g.C.Commons.workload c.args.commons.now) c.args.w.now c.requires.w c.known.ensures c.args.self.now c.args.pass.now c.run.new.self c.run.new.pass c.requires.fits c.run.ensures.keeps Z c.run.result (c.run.ensures.turned Z refl)
