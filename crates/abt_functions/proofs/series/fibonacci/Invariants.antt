use Rattle.std.proofs.Common.{◌≡◌, ◌%◌, ◌^◌, suc}
use Rattle.abt_functions.specs.Series.{fibonacci}
use Rattle.abt_functions.proofs.series.fibonacci.Given as goal

abbrev pub invariant-loop : goal.invariant-loop
invariant-loop l = (l.term ≡ fibonacci l.counter % 2 ^ 64) × (l.next ≡ fibonacci (suc l.counter) % 2 ^ 64)
