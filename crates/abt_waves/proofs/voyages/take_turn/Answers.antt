-- Why a stream leaves after a turn.
use Rattle.std.proofs.Common.{true, sym, subst}
use Rattle.std.specs.Prelude.{IfSome}
use Rattle.std.proofs.lemmas.Option.{IfSome_then}
use Rattle.abt_waves.specs.Stops.{StopsBy, TurnEnds}
use Rattle.abt_waves.specs.Storing.{stored_by}
use Rattle.abt_waves.proofs.Going.{ends-since}
use Rattle.abt_waves.proofs.voyages.take_turn.Goals as goal

pub returns-in-Spent-clause-stops : goal.returns-in-Spent-clause-stops
returns-in-Spent-clause-stops g c = λ first gone.
    subst (TurnEnds (g.C.Locked.locks c.args.locks.now) g.C.Locked.lock c.args.w.now c.args.stream.now.log c.advance.new.stream c.advance.new.pass) c.in-Spent.is c.in-Ok.ensures.ends

pub returns-in-Worn-clause-stops : goal.returns-in-Worn-clause-stops
returns-in-Worn-clause-stops g c = λ first gone.
    subst (TurnEnds (g.C.Locked.locks c.args.locks.now) g.C.Locked.lock c.args.w.now c.args.stream.now.log c.advance.new.stream c.advance.new.pass) c.in-Worn.is c.in-Ok.ensures.ends

pub returns-in-EmptyRound-clause-stops : goal.returns-in-EmptyRound-clause-stops
returns-in-EmptyRound-clause-stops g c = λ first gone.
    let Z = stored_by (g.O.Orders.shapes c.args.orders.now) (g.P.Work.returns c.args.work.now) in
    let ends = subst (TurnEnds (g.C.Locked.locks c.args.locks.now) g.C.Locked.lock c.args.w.now c.args.stream.now.log c.advance.new.stream c.advance.new.pass) c.in-EmptyRound.is c.in-Ok.ensures.ends in
    subst (λ p. IfSome c.stop_unless.result (StopsBy (g.C.Locked.locks c.args.locks.now) g.C.Locked.lock c.args.w.now true first.log c.advance.new.stream p)) (sym c.looks_on.ensures.same)
    (IfSome_then c.stop_unless.result c.stop_unless.ensures
    (λ s is. subst (StopsBy (g.C.Locked.locks c.args.locks.now) g.C.Locked.lock c.args.w.now true first.log c.advance.new.stream c.advance.new.pass) (sym is)
    (λ lives. ends-since (g.C.Locked.locks c.args.locks.now) g.C.Locked.lock c.args.w.now Z first c.args.stream.now c.advance.new.stream c.args.pass.now gone ends)))

pub returns-in-Stepped-clause-stops : goal.returns-in-Stepped-clause-stops
returns-in-Stepped-clause-stops g c = λ first gone. IfSome_then c.stop_unless-in-Stepped.result c.stop_unless-in-Stepped.ensures
    (λ s is. subst (StopsBy (g.C.Locked.locks c.args.locks.now) g.C.Locked.lock c.args.w.now true first.log c.advance.new.stream c.advance.new.pass) (sym is) tt)

pub returns-in-Moved-clause-stops : goal.returns-in-Moved-clause-stops
returns-in-Moved-clause-stops g c = λ first gone. IfSome_then c.stop_unless-in-Moved.result c.stop_unless-in-Moved.ensures
    (λ s is. subst (StopsBy (g.C.Locked.locks c.args.locks.now) g.C.Locked.lock c.args.w.now true first.log c.advance.new.stream c.advance.new.pass) (sym is) tt)
