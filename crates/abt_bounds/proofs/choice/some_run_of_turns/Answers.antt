use Rattle.abt_bounds.proofs.Turns.{some-run-of-turns}
use Rattle.abt_bounds.proofs.choice.some_run_of_turns.Goals as goal

pub returns : goal.returns
returns c = some-run-of-turns
