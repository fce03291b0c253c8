use Rattle.abt_bounds.proofs.Budgets.{steps-are-few}
use Rattle.abt_bounds.proofs.budget.steps_are_few.Goals as goal

pub returns : goal.returns
returns c = steps-are-few
