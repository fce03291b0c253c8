use Rattle.std.proofs.Common.{◌≡◌, take}
use Rattle.abt_compute.specs.Numbers.{number_lines}
use Rattle.abt_compute.proofs.numbers.lines_of_numbers.Given as goal

abbrev pub invariant-loop-n : goal.invariant-loop-n
invariant-loop-n l = l.text.items ≡ number_lines (take l.n-index l.numbers)
