-- One turn more.
use Rattle.abt_order.specs.Stored.{stored_of}
use Rattle.abt_waves.proofs.Staying.{turn-begins, turn-stays, turns-on}
use Rattle.abt_waves.proofs.alone.turns.Goals as goal

pub turns-preserved : goal.turns-preserved
turns-preserved g c =
    let Z = stored_of c.args.orders.now (g.P.Work.returns c.args.work.now) in
    let e = c.in_ok-turn.ensures in
    record {
      next = tt;
      finite = tt;
      pass = e.pass;
      fits = e.fits;
      shapes = e.shapes;
      answers = λ fits. e.answers (c.turns.invariant.answers fits);
      stays = turns-on c.args.w.now Z c.args.stream.now c.turns.stream c.advance.new.stream c.args.pass.now c.turns.pass c.advance.new.pass c.turns.invariant.stays
          (turn-stays c.args.w.now Z c.turns.stream c.advance.new.stream c.turns.pass c.advance.new.pass c.in_ok-turn.turn e.turn e.fits e.shapes e.number e.keeps e.budget e.few e.within e.pass);
    }

pub returns-then-stops : goal.returns-then-stops
returns-then-stops g c =
    let Z = stored_of c.args.orders.now (g.P.Work.returns c.args.work.now) in
    let e = c.in_ok-turn.ensures in
    record {
      stays = turns-on c.args.w.now Z c.args.stream.now c.turns.stream c.advance.new.stream c.args.pass.now c.turns.pass c.advance.new.pass c.turns.invariant.stays
          (turn-stays c.args.w.now Z c.turns.stream c.advance.new.stream c.turns.pass c.advance.new.pass c.in_ok-turn.turn e.turn e.fits e.shapes e.number e.keeps e.budget e.few e.within e.pass);
      pass = e.pass;
      answers = λ fits. e.answers (c.turns.invariant.answers fits);
      fresh = turn-begins c.args.w.now Z c.args.stream.now c.turns.stream c.advance.new.stream c.args.pass.now c.turns.pass c.advance.new.pass c.puts-putting.result c.puts-putting.ensures.0 c.in_ok-turn.turn (c.stops.ensures c.if-stops.true)
          c.turns.invariant.stays e.turn e.fits e.shapes e.number e.keeps e.budget e.few e.within e.pass;
    }
