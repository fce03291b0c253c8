use Rattle.std.proofs.Common.{All}
use Rattle.abt_report.specs.Pictures.{SaysWordsOf}
use Rattle.trials_texts.proofs.reports.picture.Given as goal

abbrev pub invariant-loop-shown : goal.invariant-loop-shown
invariant-loop-shown l = All (SaysWordsOf l.w) l.rows.items
