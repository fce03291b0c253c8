-- A call by a turn, which is kept or was taken for it.
use Rattle.std.proofs.Common.{◌≡◌, sym, ap, subst}
use Rattle.abt_interleave.specs.Histories.{Extends}
use Rattle.abt_booth.specs.Holders.{holder_number, holder_seen}
use Rattle.abt_booth.specs.Seats.{IsReply, opening_of}
use Rattle.abt_booth.proofs.Answered.{reply-earlier}
use Rattle.abt_booth.proofs.HolderPlaces.{at-place, of-turn}
use Rattle.abt_commons.specs.Asks.{Does}
use Rattle.abt_commons.specs.Turns.{RestsOrKeeps, TurnValue}
use Rattle.abt_commons.proofs.TurnsSeen.{its-holder, its-turn}
use Rattle.abt_commons.proofs.turn.Turn.call.Goals as goal

pub call_held-requires-clause-turn : goal.call_held-requires-clause-turn
call_held-requires-clause-turn g c =
    its-turn c.args.booth.now c.args.self.now c.requires.booth c.self.inside.holder c.self.view_is c.self.inside.kept c.if-self.true c.self.invariant

pub invariant_of-self : goal.invariant_of-self
invariant_of-self g c = subst (RestsOrKeeps c.call_held.new.holder) (sym c.if-self.true) (c.args.booth.now, c.call_held.ensures.turn)

pub returns-then-self-clause-booth : goal.returns-then-self-clause-booth
returns-then-self-clause-booth g c = let now = c.call_held.new.holder in at-place c.args.booth.now now (of-turn c.args.booth.now now Does c.call_held.ensures.turn)

pub hold-requires-clause-holder : goal.hold-requires-clause-holder
hold-requires-clause-holder g c = its-holder c.args.booth.now c.args.self.now c.requires.booth c.self.inside.holder c.self.view_is

pub returns-clause-booth : goal.returns-clause-booth
returns-clause-booth g c = let now = c.call_held-2.new.holder in at-place c.args.booth.now now (of-turn c.args.booth.now now Does c.call_held-2.ensures.turn)

pub returns-clause-reply : goal.returns-clause-reply
returns-clause-reply g c =
    let old = c.self.inside.holder in
    let turn = c.args.self.now in
    let opening = opening_of c.args.booth.now in
    let now = c.hold.new.holder in
    let after = c.call_held-2.new.holder in
    let called = c.call_held-2.result in
    let number : holder_number old ≡ turn.number = ap (λ (t : TurnValue). t.number) c.self.view_is in
    let seen : holder_seen old ≡ turn.seen = ap (λ (t : TurnValue). t.seen) c.self.view_is in
    let met = subst (λ l. Extends (holder_number old) l (holder_seen now)) seen c.hold.ensures.met in
    let reply = subst (λ n. IsReply Does opening n (holder_seen now) (holder_seen after) c.args.at c.args.act called) c.hold.ensures.number c.call_held-2.ensures.reply in
    subst (λ n. IsReply Does opening n turn.seen (holder_seen after) c.args.at c.args.act called) number
    (reply-earlier Does opening (holder_number old) turn.seen (holder_seen now) (holder_seen after) c.args.at c.args.act called met reply)
