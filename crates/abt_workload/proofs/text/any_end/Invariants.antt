use Rattle.std.proofs.Common.{◌≡◌, ◌<◌, ℕ, false, get_or}
use Rattle.abt_workload.specs.Bytes.{ends_word}
use Rattle.abt_workload.proofs.text.any_end.Given as goal

abbrev pub invariant-loop-k : goal.invariant-loop-k
invariant-loop-k l = (j : ℕ) → j < l.k → ends_word (get_or l.text j 0) ≡ false
