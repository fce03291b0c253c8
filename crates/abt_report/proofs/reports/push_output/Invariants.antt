use Rattle.std.proofs.Common.{◌≡◌, ◌++◌, map, take}
use Rattle.abt_machine.specs.Texts.{piece_word}
use Rattle.abt_machine.specs.Words.{spaced}
use Rattle.abt_report.proofs.reports.push_output.Given as goal

abbrev pub invariant-loop-piece : goal.invariant-loop-piece
invariant-loop-piece l = l.out.items ≡ l.fn.out.items ++ spaced (map (piece_word l.w) (take l.piece-index l.output))
