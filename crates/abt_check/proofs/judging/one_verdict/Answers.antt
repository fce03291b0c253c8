-- A right verdict excludes the others.
use Rattle.abt_check.proofs.Judged.{one-right_verdict}
use Rattle.abt_check.proofs.judging.one_verdict.Goals as goal

pub returns : goal.returns
returns c = one-right_verdict
