-- A turn of one stream in a wave.
use Rattle.std.proofs.Common.{◌≡◌, ◌^◌, List, refl, sym, ◌∙◌, ap, subst}
use Rattle.abt_machine.specs.declared.events.Event.{Event}
use Rattle.abt_machine.specs.declared.workload.Parts.{Parts}
use Rattle.abt_machine.specs.declared.numbers.StreamNo.{StreamNo}
use Rattle.abt_stream.specs.Heeding.{Heeds}
use Rattle.abt_stream.specs.Streams.{FitsShapes, StreamValue}
use Rattle.abt_stream.specs.Turned.{Turned}
use Rattle.abt_stream.proofs.Rounds.{follows-answers}
use Rattle.abt_waves.specs.Locks.{Moves}
use Rattle.abt_waves.specs.Stops.{TurnEnds}
use Rattle.abt_waves.specs.Voyages.{HasGone}
use Rattle.abt_waves.proofs.Going.{few-after, prepared-gone, turned-ends, turned-gone}
use Rattle.abt_waves.specs.Storing.{stored_by}
use Rattle.abt_waves.proofs.voyages.advance.Goals as goal

pub returns : goal.returns
returns g c =
    let Z = stored_by (g.O.Orders.shapes c.args.orders.now) (g.P.Work.returns c.args.work.now) in
    let shapes : FitsShapes c.args.w.now Z c.prepare.new.stream = c.in_ok-prepare.ensures.shapes (g.P.Work.returns c.args.work.now) c.requires.has.shapes in
    let turned : Turned (Heeds (Moves (g.C.Locked.locks c.args.locks.now) g.C.Locked.lock) (g.C.Locked.locks c.args.locks.now).objects.workload) (g.C.Locked.locks c.args.locks.now).objects.workload Z c.prepare.new.stream c.args.pass.now c.turn-turn.result c.turn-turn.new.stream c.turn-turn.new.pass =
    subst (λ V. Turned (Heeds (Moves (g.C.Locked.locks c.args.locks.now) g.C.Locked.lock) (g.C.Locked.locks c.args.locks.now).objects.workload) V Z c.prepare.new.stream c.args.pass.now c.turn-turn.result c.turn-turn.new.stream c.turn-turn.new.pass) (sym c.requires.locks)
    (c.turn-turn.ensures.turned Z shapes refl) in
    let same : c.prepare.new.stream.number ≡ c.args.stream.now.number = ap (λ (s : StreamValue). s.number) c.in_ok-prepare.ensures.same in
    record {
      has = record {
        fits = c.turn-turn.ensures.fits;
        shapes = c.turn-turn.ensures.shapes Z shapes;
        few = few-after (g.C.Locked.locks c.args.locks.now) g.C.Locked.lock Z c.prepare.new.stream c.args.pass.now c.turn-turn.new.stream c.turn-turn.new.pass (2 ^ 55) c.in_ok-prepare.ensures.ready.few c.turn-turn.result turned;
        within = c.steps.ensures.steps;
        own = c.turn-turn.ensures.pass;
        number = c.turn-turn.ensures.number ∙ (c.requires.has.number ∙ ap (λ (k : StreamNo). k.0) (sym same ∙ sym c.turn-turn.ensures.stream));
      };
      answers = λ fits. follows-answers c.args.w.now (g.O.Orders.answered c.args.orders.now c.args.w.now) c.prepare.new.stream c.turn-turn.new.stream c.turn-turn.ensures.follows (c.in_ok-prepare.ensures.answers fits);
      gone = λ first gone. subst (λ V. HasGone (g.C.Locked.locks c.args.locks.now) g.C.Locked.lock V Z first c.turn-turn.new.stream c.turn-turn.new.pass) c.requires.locks
          (turned-gone (g.C.Locked.locks c.args.locks.now) g.C.Locked.lock Z first c.prepare.new.stream c.args.pass.now c.turn-turn.new.stream c.turn-turn.new.pass (c.requires.has.number ∙ ap (λ (k : StreamNo). k.0) (sym same))
          (prepared-gone (g.C.Locked.locks c.args.locks.now) g.C.Locked.lock (g.C.Locked.locks c.args.locks.now).objects.workload Z first c.args.stream.now c.prepare.new.stream c.args.pass.now c.in_ok-prepare.ensures.same
          (subst (λ V. HasGone (g.C.Locked.locks c.args.locks.now) g.C.Locked.lock V Z first c.args.stream.now c.args.pass.now) (sym c.requires.locks) gone))
          c.turn-turn.result turned c.turn-turn.ensures.stream c.turn-turn.ensures.budget c.turn-turn.ensures.keeps);
      ends = subst (λ (q : Parts × List Event). TurnEnds (g.C.Locked.locks c.args.locks.now) g.C.Locked.lock q.0 q.1 c.turn-turn.new.stream c.turn-turn.new.pass c.turn-turn.result)
          (λ i. (c.requires.locks i, ap (λ (s : StreamValue). s.log) c.in_ok-prepare.ensures.same i))
          (turned-ends (g.C.Locked.locks c.args.locks.now) g.C.Locked.lock Z c.prepare.new.stream c.args.pass.now c.turn-turn.new.stream c.turn-turn.new.pass c.turn-turn.result turned);
    }
