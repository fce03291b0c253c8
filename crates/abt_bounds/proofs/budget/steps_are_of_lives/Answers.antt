use Rattle.abt_bounds.proofs.Budgets.{steps-are-of-lives}
use Rattle.abt_bounds.proofs.budget.steps_are_of_lives.Goals as goal

pub returns : goal.returns
returns c = steps-are-of-lives
