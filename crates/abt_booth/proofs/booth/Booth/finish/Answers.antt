use Rattle.std.proofs.Common.{rules, sym, subst, ◌∙◌}
use mathlib.Core.Option.{some-injective}
use Rattle.std.specs.Mem.Slots.{slots_items}
use Rattle.abt_booth.specs.declared.rule.Lot.{Lot}
use Rattle.abt_booth.specs.Calls.{IsClosed}
use Rattle.abt_booth.specs.Seats.{opening_of, seats_of, gathered_of, AreGatheredOf}
use Rattle.abt_booth.proofs.Gathering.{closes}
use Rattle.abt_booth.proofs.Places.{same-some}
use Rattle.abt_booth.proofs.booth.Booth.finish.Goals as goal

pub unreachable-requires : goal.unreachable-requires
unfolding opening_of seats_of gathered_of AreGatheredOf
unreachable-requires g c = let b = c.args.self in let x = c.args.gathered in let d = c.close_with-closed in
    let t = closes g.O.Object.does (opening_of b) (seats_of b) x.raw.id x.raw.me.0 (slots_items d.result.words) (slots_items d.result.slots) x.rests.0 x.rests.1 c.requires.seats d.ensures.values.2 in
    c.in_default.not-Some t.0 (some-injective _ _ (sym c.take.ensures.value ∙ t.1))

pub returns : goal.returns
unfolding opening_of seats_of gathered_of AreGatheredOf
returns g c = let b = c.args.self in let x = c.args.gathered in let d = c.close_with-closed in
    let t = closes g.O.Object.does (opening_of b) (seats_of b) x.raw.id x.raw.me.0 (slots_items d.result.words) (slots_items d.result.slots) x.rests.0 x.rests.1 c.requires.seats d.ensures.values.2 in
    subst (λ (y : Lot g.row.O.Denot g.row.O-Act.Denot g.row.O-Answer.Denot). IsClosed g.O.Object.does (opening_of b) (seats_of b) (gathered_of x) y.object y.clock)
    (same-some t.0 c.in-Some.lot (some-injective _ _ (sym t.1 ∙ c.take.ensures.value) ∙ c.in-Some.is)) t.2

pub close_with-closed-requires : goal.close_with-closed-requires
unfolding AreGatheredOf
close_with-closed-requires g c = search rules
