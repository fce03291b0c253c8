use Rattle.std.proofs.Common.{◌∙◌, ap, sym}
use Rattle.std.proofs.Math.Nat.{mod-eq_of_lt}
use Rattle.std.proofs.lemmas.Nat.{or_lt, xor_lt}
use Rattle.abt_machine.specs.Carrying.{word_from}
use Rattle.abt_machine.proofs.operations.Calc.word_from.Goals as goal

pub returns-in-Or : goal.returns-in-Or
returns-in-Or c =
    sym (mod-eq_of_lt (or_lt 64 c.args.acc c.args.key c.ranges.acc.fits c.ranges.key.fits)) ∙ ap (λ k. word_from k c.args.acc c.args.key) (sym c.in-Or.is)

pub returns-in-Xor : goal.returns-in-Xor
returns-in-Xor c =
    sym (mod-eq_of_lt (xor_lt 64 c.args.acc c.args.key c.ranges.acc.fits c.ranges.key.fits)) ∙ ap (λ k. word_from k c.args.acc c.args.key) (sym c.in-Xor.is)
