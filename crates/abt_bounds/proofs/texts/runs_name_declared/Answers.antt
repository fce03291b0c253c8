use Rattle.abt_bounds.proofs.Naming.{runs-name-declared}
use Rattle.abt_bounds.proofs.texts.runs_name_declared.Goals as goal

pub returns : goal.returns
returns c = runs-name-declared
