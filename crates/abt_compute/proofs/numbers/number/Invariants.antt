use Rattle.std.proofs.Common.{◌≡◌, drop}
use Rattle.abt_workload.proofs.Numerals.{number_from}
use Rattle.abt_compute.proofs.numbers.number.Given as goal

abbrev pub invariant-loop-b : goal.invariant-loop-b
invariant-loop-b l = number_from l.n (drop l.b-index l.line) ≡ number_from 0 l.line
