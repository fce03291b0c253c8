use Rattle.std.proofs.Common.{◌≡◌, ◌<◌, ◌≤◌, ◌-◌, ◌==◌, ◌++◌, ℕ, true, false, drop, get_or, length, map}
use Rattle.abt_machine.specs.Spelling.{is_separator, words_of}
use Rattle.abt_workload.proofs.OnePass.{front, is_fine}
use Rattle.abt_workload.proofs.text.cut_line.Given as goal

abbrev pub invariant-loop-length : goal.invariant-loop-length
invariant-loop-length l = record {
  within : l.at ≤ length l.text;
  start : l.at < length l.text → is_separator (get_or l.text l.at 0) ≡ false;
  before : (j : ℕ) → j < l.at → (get_or l.text j 0 == 10) ≡ false;
  clean : l.is_clean ≡ true → (j : ℕ) → j < l.at → is_fine (get_or l.text j 0) ≡ true;
  words : map (λ w. w.now) l.words.items ++ words_of (front (drop l.at l.text)) ≡ words_of (front l.text);
}

abbrev pub decreases-loop-length : goal.decreases-loop-length
decreases-loop-length l = length l.text - l.at
