use Rattle.abt_machine.proofs.operations.+gcd.Given as goal

-- the remainder is less than the divisor
abbrev pub decreases-gcd : goal.decreases-gcd
decreases-gcd l = l.b
