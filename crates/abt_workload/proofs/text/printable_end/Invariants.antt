use Rattle.std.proofs.Common.{◌≡◌, ◌<◌, ℕ, true, get_or}
use Rattle.abt_workload.specs.Bytes.{is_printable}
use Rattle.abt_workload.proofs.text.printable_end.Given as goal

abbrev pub invariant-loop-k : goal.invariant-loop-k
invariant-loop-k l = (j : ℕ) → j < l.k → is_printable (get_or l.text j 0) ≡ true
