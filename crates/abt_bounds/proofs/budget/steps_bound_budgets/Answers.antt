use Rattle.abt_bounds.proofs.Budgets.{steps-bound-budgets}
use Rattle.abt_bounds.proofs.budget.steps_bound_budgets.Goals as goal

pub returns : goal.returns
returns c = steps-bound-budgets
