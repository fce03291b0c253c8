use Rattle.std.proofs.Common.{◌∙◌, Some, None}
use Rattle.abt_machine.proofs.Saying.{said-step}
use Rattle.abt_machine.proofs.validity.next_unit_word.Goals as goal

pub returns-in_err-next : goal.returns-in_err-next
returns-in_err-next c =
    c.from_residual.ensures
    ∙ said-step c.args.units.now c.loop-part.part-index c.part-item.result c.ops.result.now c.loop-part.next c.next_word.result None c.part-item.is c.loop-part-test.true c.ops.ensures c.next_word.ensures c.in_err-next.was
    ∙ c.loop-part.invariant

pub loop-part-preserved : goal.loop-part-preserved
loop-part-preserved c =
    said-step c.args.units.now c.loop-part.part-index c.part-item.result c.ops.result.now c.loop-part.next c.next_word.result (Some c.in_ok-next.next) c.part-item.is c.loop-part-test.true c.ops.ensures c.next_word.ensures c.in_ok-next.was
    ∙ c.loop-part.invariant
