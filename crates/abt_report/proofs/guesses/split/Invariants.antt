use Rattle.std.proofs.Common.{◌≡◌, ◌++◌, ◌≤◌, ◌-◌, length, map}
use Rattle.std.specs.List.{slice_split}
use Rattle.abt_report.specs.Guesses.{is_space}
use Rattle.abt_report.proofs.guesses.split.Given as goal

abbrev pub invariant-loop-rest : goal.invariant-loop-rest
invariant-loop-rest l = record {
  split : map (λ word. word.now) l.words.items ++ slice_split is_space l.rest ≡ slice_split is_space l.fn.line;
  few : length l.words.items ≤ 7;
}

abbrev pub decreases-loop-rest : goal.decreases-loop-rest
decreases-loop-rest l = 7 - length l.words.items
