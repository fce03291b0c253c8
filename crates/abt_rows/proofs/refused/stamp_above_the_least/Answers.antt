use Rattle.abt_rows.proofs.Refusing.{late-is-not-least, late-is-stamped}
use Rattle.abt_rows.proofs.refused.stamp_above_the_least.Goals as goal

pub returns : goal.returns
returns c W = (late-is-stamped W, late-is-not-least W)
