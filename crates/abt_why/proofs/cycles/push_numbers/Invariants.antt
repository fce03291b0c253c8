use Rattle.std.proofs.Common.{◌≡◌, ◌++◌, decimal, map, take}
use Rattle.abt_machine.specs.Words.{spaced}
use Rattle.abt_why.proofs.cycles.push_numbers.Given as goal

abbrev pub invariant-loop-n : goal.invariant-loop-n
invariant-loop-n l = l.out.items ≡ l.fn.out.items ++ spaced (map decimal (take l.n-index l.numbers))
