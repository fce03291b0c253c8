use Rattle.std.proofs.Common.{rules, ◌∷◌, Some, sym, ap, ◌∙◌}
use Rattle.atomic_table.specs.Table.{rest}
use Rattle.abt_booth.specs.Holders.{sight_of}
use Rattle.abt_booth.specs.Seats.{opening_of}
use Rattle.abt_booth.proofs.Histories.{allowed-after}
use Rattle.abt_booth.proofs.Turns.{busy-more, reply-more, sight-more, taken-out}
use Rattle.abt_booth.proofs.booth.Booth.ask.Goals as goal

pub slot_mut-kept-requires : goal.slot_mut-kept-requires
slot_mut-kept-requires g c = let turn = c.requires.turn in (search rules, (Some turn.0, turn.1 ∙ ap (λ z. (0, Some turn.0) ∷ z) (sym (ap rest turn.1))))

pub answer-requires-clause-act : goal.answer-requires-clause-act
answer-requires-clause-act g c =
    let me = c.args.seat.now.me in
    let opening = opening_of c.args.self.now in
    let taken = taken-out g.O.Object.does opening me c.in-Some.lot c.requires.turn (c.slot_mut-kept.ensures.value ∙ ap (λ kept. (0, kept) ∷ rest me.1) c.in-Some.is) in
    allowed-after g.O.Object.does g.O.Object.allowed g.met.O.Object.keeps opening (sight_of me) c.in-Some.lot.object c.args.act taken.leads c.requires.act

pub answer-requires-clause-clock : goal.answer-requires-clause-clock
answer-requires-clause-clock g c =
    let me = c.args.seat.now.me in
    let taken = taken-out g.O.Object.does (opening_of c.args.self.now) me c.in-Some.lot c.requires.turn (c.slot_mut-kept.ensures.value ∙ ap (λ kept. (0, kept) ∷ rest me.1) c.in-Some.is) in taken.capped

pub returns-clause-turn : goal.returns-clause-turn
returns-clause-turn g c =
    let me = c.args.seat.now.me in
    busy-more g.O.Object.does (opening_of c.args.self.now) me c.in-Some.lot c.answer.new.lot c.args.at c.args.act c.requires.turn (c.slot_mut-kept.ensures.value ∙ ap (λ kept. (0, kept) ∷ rest me.1) c.in-Some.is)
    c.answer.result c.answer.ensures

pub returns-clause-reply : goal.returns-clause-reply
returns-clause-reply g c =
    let me = c.args.seat.now.me in
    reply-more g.O.Object.does (opening_of c.args.self.now) me c.in-Some.lot c.answer.new.lot c.args.at c.args.act c.requires.turn (c.slot_mut-kept.ensures.value ∙ ap (λ kept. (0, kept) ∷ rest me.1) c.in-Some.is)
    c.answer.result c.answer.ensures

pub returns-clause-alone : goal.returns-clause-alone
returns-clause-alone g c =
    let me = c.args.seat.now.me in
    sight-more g.O.Object.does (opening_of c.args.self.now) me c.in-Some.lot c.answer.new.lot c.args.at c.args.act c.requires.turn (c.slot_mut-kept.ensures.value ∙ ap (λ kept. (0, kept) ∷ rest me.1) c.in-Some.is)
    c.answer.result c.answer.ensures
