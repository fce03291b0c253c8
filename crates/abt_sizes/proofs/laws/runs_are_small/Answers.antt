use Rattle.abt_sizes.proofs.Runs.{runs-are-small}
use Rattle.abt_sizes.proofs.laws.runs_are_small.Goals as goal

pub returns : goal.returns
returns c = runs-are-small
