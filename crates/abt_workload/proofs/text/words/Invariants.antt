use Rattle.std.proofs.Common.{◌≡◌, ◌++◌, length, map}
use Rattle.abt_machine.specs.Spelling.{words_of}
use Rattle.abt_workload.proofs.text.words.Given as goal

abbrev pub invariant-loop-word : goal.invariant-loop-word
invariant-loop-word l = map (λ w. w.now) l.words.items ++ words_of l.rest ≡ words_of l.fn.line

abbrev pub decreases-loop-word : goal.decreases-loop-word
decreases-loop-word l = length l.rest
