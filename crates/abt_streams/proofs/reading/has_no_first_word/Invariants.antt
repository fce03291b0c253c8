use Rattle.std.proofs.Common.{◌≡◌, drop}
use Rattle.abt_machine.specs.Faults.{is_skipped}
use Rattle.abt_machine.specs.Spelling.{words_of}
use Rattle.abt_streams.proofs.reading.has_no_first_word.Given as goal

abbrev pub invariant-loop-b : goal.invariant-loop-b
invariant-loop-b l = is_skipped (words_of (drop l.b-index l.line)) ≡ is_skipped (words_of l.line)
