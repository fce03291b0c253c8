use Rattle.std.proofs.Common.{rules, ◌∷◌, Some, ap, sym, ◌∙◌}
use Rattle.atomic_table.specs.Table.{rest}
use Rattle.abt_booth.specs.Seats.{opening_of}
use Rattle.abt_booth.proofs.Turns.{busy-begun}
use Rattle.abt_booth.proofs.booth.Booth.begin_turn.Goals as goal

pub slot_mut-kept-requires : goal.slot_mut-kept-requires
slot_mut-kept-requires g c = let t = c.requires.turn.1 in let e = ap (λ m. m.1) t.4 in (search rules, (Some t.2, e ∙ ap (λ z. (0, Some t.2) ∷ z) (sym (ap rest e))))

pub returns-clause-turn : goal.returns-clause-turn
returns-clause-turn g c =
    let turn = c.requires.turn in
    let me = c.args.seat.now.me in
    busy-begun g.O.Object.does (opening_of c.args.self.now) turn.0 me c.in-Some.lot c.no_calls.result turn.1 turn.2 turn.3 (c.slot_mut-kept.ensures.value ∙ ap (λ kept. (0, kept) ∷ rest me.1) c.in-Some.is) c.no_calls.ensures
