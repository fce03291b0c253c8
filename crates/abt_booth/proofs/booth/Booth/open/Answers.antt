use Rattle.std.proofs.Common.{rules, refl, replicate, sym, ap, subst, ◌∙◌, List, [], ◌∷◌, ◌++◌, Some}
use Rattle.atomic_table.specs.Table.{opening}
use Rattle.abt_booth.specs.declared.rule.Lot.{Lot}
use Rattle.abt_booth.specs.Rule.{KeptLot, Kept, keeper}
use Rattle.abt_booth.specs.Seats.{opening_of, seats_of}
use Rattle.abt_booth.proofs.Dealing.{opens}
use Rattle.abt_booth.proofs.booth.Booth.open.Goals as goal

pub new-requires : goal.new-requires
new-requires g c =
    let o = c.of.result.value in
    let lot : Lot g.row.O.Denot g.row.O-Act.Denot g.row.O-Answer.Denot = record { object = c.args.object; clock = 0; made = c.no_calls.result } in
    subst (λ (xs : List (KeptLot g.row.O.Denot g.row.O-Act.Denot g.row.O-Answer.Denot)). Kept g.O.Object.does o c.args.seats (opening (replicate 7 0) xs (keeper o c.args.seats)))
    (sym (c.push_reserved.ensures.items ∙ ap (λ l. l ++ Some lot ∷ []) c.in-Ok.ensures.items)) (opens g.O.Object.does o c.args.seats lot (sym c.of.ensures) refl)

pub object_in-requires : goal.object_in-requires
object_in-requires g c =
    let lot : Lot g.row.O.Denot g.row.O-Act.Denot g.row.O-Answer.Denot = record { object = c.args.object; clock = 0; made = c.no_calls.result } in
    (lot, c.in-Err-new.ensures.err ∙ (c.push_reserved.ensures.items ∙ ap (λ l. l ++ Some lot ∷ []) c.in-Ok.ensures.items))

pub returns-clause-refused : goal.returns-clause-refused
returns-clause-refused g c =
    let lot : Lot g.row.O.Denot g.row.O-Act.Denot g.row.O-Answer.Denot = record { object = c.args.object; clock = 0; made = c.no_calls.result } in
    c.object_in.ensures lot (c.in-Err-new.ensures.err ∙ (c.push_reserved.ensures.items ∙ ap (λ l. l ++ Some lot ∷ []) c.in-Ok.ensures.items))

pub returns-in-Ok-new-clause-booth : goal.returns-in-Ok-new-clause-booth
unfolding opening_of seats_of
returns-in-Ok-new-clause-booth g c = search rules
