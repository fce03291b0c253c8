use Rattle.std.proofs.Common.{◌≡◌, ◌<◌, ℕ, false, get_or}
use Rattle.abt_machine.specs.Spelling.{is_separator}
use Rattle.abt_workload.proofs.text.word_end.Given as goal

abbrev pub invariant-loop-k : goal.invariant-loop-k
invariant-loop-k l = (j : ℕ) → j < l.k → is_separator (get_or l.line j 0) ≡ false
