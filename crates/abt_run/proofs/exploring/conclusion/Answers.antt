use Rattle.std.proofs.Common.{◌∙◌, ap, sym}
use Rattle.abt_run.specs.Ends.{concluded}
use Rattle.abt_run.proofs.Searching.{some-ends}
use Rattle.abt_run.proofs.exploring.conclusion.Goals as goal

pub returns : goal.returns
returns c = c.concluded.ensures ∙ (ap concluded c.any_stuck.ensures ∙ some-ends c.args.ends.now (sym c.is_empty.ensures ∙ c.if-is_empty.false))
