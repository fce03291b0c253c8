use Rattle.abt_sizes.proofs.Runs.{runs-are-bounded}
use Rattle.abt_sizes.proofs.laws.runs_are_bounded.Goals as goal

pub returns : goal.returns
returns c = runs-are-bounded
