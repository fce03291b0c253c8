use Rattle.std.proofs.Common.{sym, ap, subst, List}
use Rattle.abt_interleave.specs.declared.entries.Entry.{Entry}
use Rattle.abt_booth.specs.Holders.{sight_of}
use Rattle.abt_booth.specs.Seats.{opening_of, number_of, seen_of, IsReply}
use Rattle.abt_booth.proofs.Answered.{grows-reply, reply-earlier}
use Rattle.abt_booth.proofs.booth.Booth.call.Goals as goal

pub returns-clause-reply : goal.returns-clause-reply
unfolding number_of seen_of
returns-clause-reply g c =
    let does = g.O.Object.does in
    let o = opening_of c.args.self.now in
    let s = c.args.seat.now.raw.me.0 in
    let before = sight_of c.begin.new.seat.me in
    let after = sight_of c.ask-called.new.seat.me in
    let same = ap (λ v. v.number) c.begin.ensures.view in
    subst (λ (l : List (Entry g.row.O-Act.Denot g.row.O-Answer.Denot)). IsReply does o s.number s.seen l c.args.at c.args.act c.ask-called.result) (sym (ap (λ v. v.0.seen) c.release.ensures.view))
    (reply-earlier does o s.number s.seen before after c.args.at c.args.act c.ask-called.result c.begin.ensures.met
    (subst (λ n. IsReply does o n before after c.args.at c.args.act c.ask-called.result) same c.ask-called.ensures.reply))

pub returns-clause-grows : goal.returns-clause-grows
returns-clause-grows g c =
    let s = c.args.seat.now in
    grows-reply g.O.Object.does (opening_of c.args.self.now) (number_of s) (seen_of s) _ c.args.at c.args.act c.ask-called.result (returns-clause-reply g c)
