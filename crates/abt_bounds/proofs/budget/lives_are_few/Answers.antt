use Rattle.abt_bounds.proofs.FewLives.{lives-are-few}
use Rattle.abt_bounds.proofs.budget.lives_are_few.Goals as goal

pub returns : goal.returns
returns c = lives-are-few
