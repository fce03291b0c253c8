use Rattle.abt_bounds.proofs.Turns.{one-run-of-turns}
use Rattle.abt_bounds.proofs.choice.one_run_of_turns.Goals as goal

pub returns : goal.returns
returns c = one-run-of-turns
