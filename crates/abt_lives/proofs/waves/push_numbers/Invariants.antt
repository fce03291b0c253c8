use Rattle.std.proofs.Common.{◌≡◌, ◌++◌, decimal, map, take}
use Rattle.abt_machine.specs.Words.{spaced}
use Rattle.abt_lives.proofs.waves.push_numbers.Given as goal

abbrev pub invariant-loop-number : goal.invariant-loop-number
invariant-loop-number l = l.out.items ≡ l.fn.out.items ++ spaced (map decimal (take l.number-index l.numbers))
