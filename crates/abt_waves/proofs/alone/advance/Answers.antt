-- A turn of one stream.
use Rattle.std.proofs.Common.{◌^◌, refl, subst}
use Rattle.abt_order.specs.Stored.{IsAnsweredOrder, stored_of}
use Rattle.abt_commons.specs.Plains.{PlainMoves}
use Rattle.abt_stream.specs.Heeding.{Heeds}
use Rattle.abt_stream.specs.Turned.{Turned}
use Rattle.abt_stream.proofs.Rounds.{follows-answers}
use Rattle.abt_drain.proofs.Advancing.{turned-by}
use Rattle.abt_drain.proofs.Prepared.{few-after, prepared-turns}
use Rattle.abt_waves.proofs.alone.advance.Goals as goal

pub returns-clause-turn : goal.returns-clause-turn
returns-clause-turn g c =
    let Z = stored_of c.args.orders.now (g.P.Work.returns c.args.work.now) in
    prepared-turns c.args.w.now Z c.args.stream.now c.prepare.new.self c.args.pass.now c.noted_turn-turn.new.stream c.noted_turn-turn.new.pass c.noted_turn-turn.result c.in_ok-prepare.ensures.same
    (turned-by c.args.w.now Z c.prepare.new.self c.args.pass.now c.noted_turn-turn.new.stream c.noted_turn-turn.new.pass c.noted_turn-turn.result
    (subst (λ V. Turned (Heeds PlainMoves V) c.args.w.now Z c.prepare.new.self c.args.pass.now c.noted_turn-turn.result c.noted_turn-turn.new.stream c.noted_turn-turn.new.pass) c.requires.plain
    (c.noted_turn-turn.ensures.turned Z (c.prepare.ensures.shapes (g.P.Work.returns c.args.work.now) c.requires.shapes) refl)))

pub returns-clause-few : goal.returns-clause-few
returns-clause-few g c =
    let Z = stored_of c.args.orders.now (g.P.Work.returns c.args.work.now) in
    few-after c.args.w.now Z c.prepare.new.self c.args.pass.now c.noted_turn-turn.new.stream c.noted_turn-turn.new.pass (2 ^ 55) c.in_ok-prepare.ensures.ready.few c.noted_turn-turn.result
    (turned-by c.args.w.now Z c.prepare.new.self c.args.pass.now c.noted_turn-turn.new.stream c.noted_turn-turn.new.pass c.noted_turn-turn.result
    (subst (λ V. Turned (Heeds PlainMoves V) c.args.w.now Z c.prepare.new.self c.args.pass.now c.noted_turn-turn.result c.noted_turn-turn.new.stream c.noted_turn-turn.new.pass) c.requires.plain
    (c.noted_turn-turn.ensures.turned Z (c.prepare.ensures.shapes (g.P.Work.returns c.args.work.now) c.requires.shapes) refl)))

pub returns-clause-shapes : goal.returns-clause-shapes
returns-clause-shapes g c =
    let Z = stored_of c.args.orders.now (g.P.Work.returns c.args.work.now) in
    c.noted_turn-turn.ensures.shapes Z (c.prepare.ensures.shapes (g.P.Work.returns c.args.work.now) c.requires.shapes)

pub returns-clause-answers : goal.returns-clause-answers
returns-clause-answers g c = λ fits.
    follows-answers c.args.w.now (IsAnsweredOrder c.args.w.now c.args.orders.now) c.prepare.new.self c.noted_turn-turn.new.stream c.noted_turn-turn.ensures.follows (c.prepare.ensures.answers fits)
