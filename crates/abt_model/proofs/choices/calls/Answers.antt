use Rattle.std.proofs.Common.{◌∙◌}
use Rattle.abt_model.proofs.Hinting.{call-tells}
use Rattle.abt_model.proofs.choices.calls.Goals as goal

pub returns-in_ok-one-in-Some : goal.returns-in_ok-one-in-Some
returns-in_ok-one-in-Some g c = λ n may.
    let one = c.in-Some.ensures in
    call-tells (g.P.Work.returns c.args.work.now c.args.function c.args.unit.now.number c.args.unit.now.carried.acc c.args.unit.now.carried.keys) c.in_ok-one-in-Some.field-0.items _ _ c.new.result n c.in_ok-one-in-Some.ensures
    (one.0, one.1, c.new.ensures ∙ one.2) may
