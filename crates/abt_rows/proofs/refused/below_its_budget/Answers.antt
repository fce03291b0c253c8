use Rattle.std.proofs.Common.{arith}
use Rattle.abt_rows.proofs.refused.below_its_budget.Goals as goal

pub returns : goal.returns
returns c W spent = omega (arith, spent.1)
