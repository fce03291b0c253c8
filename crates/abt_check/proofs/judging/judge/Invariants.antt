use Rattle.std.proofs.Common.{take}
use Rattle.abt_check.specs.Judges.{HasJudged}
use Rattle.abt_model.specs.Stored.{stored_with}
use Rattle.abt_check.proofs.judging.judge.Given as goal

abbrev pub invariant-loop-at : goal.invariant-loop-at
invariant-loop-at g l = HasJudged l.w (stored_with l.z (g.P.Work.returns l.work)) (take l.at l.journal) l.judge
