use Rattle.abt_schedule.proofs.Determined.{one-run}
use Rattle.abt_schedule.proofs.laws.one_run_a_seed.Goals as goal

pub returns : goal.returns
returns c = λ W Z. one-run W Z
