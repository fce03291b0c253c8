use Rattle.std.proofs.Common.{rules, arith, sym}
use Rattle.std.proofs.lemmas.Grind.{common_steps}
use Rattle.abt_workload.proofs.Numerals.{number-passes}
use Rattle.abt_compute.proofs.numbers.number.Goals as goal

pub returns-then-n-digit : goal.returns-then-n-digit
returns-then-n-digit c =
    let q = c.if-n-digit.true in
    sym (number-passes c.args.line.now c.loop-b.b-index c.loop-b.n (omega arith) (search (rules, common_steps)) (search rules) (rw (← c.from-digit.ensures) (omega arith)) c.loop-b.invariant)
