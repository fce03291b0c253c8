use Rattle.abt_run.proofs.Lines.{line-before}
use Rattle.abt_run.proofs.differing.split_line.Goals as goal

pub returns-clause-line : goal.returns-clause-line
returns-clause-line c = rw c.after_line-rest.ensures.rest (line-before c.args.text.now)
