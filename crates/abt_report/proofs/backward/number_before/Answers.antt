use Rattle.std.proofs.Common.{arith, decimal, length, rules, ◌<◌, ◌≤◌}
use Rattle.std.proofs.lemmas.Fmt.{decimal_nonempty, length-decimal-le}
use Rattle.abt_report.proofs.backward.number_before.Goals as goal

pub write_digits-requires : goal.write_digits-requires
write_digits-requires c =
    let short : length (decimal c.args.n) ≤ 20 = length-decimal-le 20 c.args.n (omega arith) (omega arith) (omega arith) in
    (omega arith, search rules)

pub returns-clause-place : goal.returns-clause-place
returns-clause-place c =
    let short : length (decimal c.args.n) ≤ 20 = length-decimal-le 20 c.args.n (omega arith) (omega arith) (omega arith) in
    let some = decimal_nonempty c.args.n (omega arith) in
    (omega (arith, some, c.write_digits.ensures.start), omega (arith, short, c.write_digits.ensures.start))
