use Rattle.std.proofs.Common.{◌≡◌, ◌≤◌, ◌+◌, ℕ, length}
use Rattle.abt_machine.specs.Words.{Text}
use Rattle.abt_run.specs.Differing.{DifferAfter}
use Rattle.abt_run.proofs.differing.first_difference.Given as goal

abbrev pub invariant-loop-more : goal.invariant-loop-more
invariant-loop-more l = record {
  differ : (k : ℕ) (e f : Text) → DifferAfter k l.one l.other e f → DifferAfter (l.after + k) l.expected l.found e f;
  same : l.one ≡ l.other → l.expected ≡ l.found;
  few : l.after + length l.one ≤ length l.expected;
}

abbrev pub decreases-loop-more : goal.decreases-loop-more
decreases-loop-more l = length l.one
