use Rattle.std.proofs.Common.{◌≡◌, ◌<◌, ℕ, true, get_or}
use Rattle.abt_machine.specs.Spelling.{is_separator}
use Rattle.abt_workload.proofs.text.word_start.Given as goal

abbrev pub invariant-loop-k : goal.invariant-loop-k
invariant-loop-k l = (j : ℕ) → j < l.k → is_separator (get_or l.text j 0) ≡ true
