use Rattle.std.proofs.Common.{arith}
use Rattle.abt_orderly.proofs.passing.Passing.pass_all.Goals as goal

pub loop-u-smaller : goal.loop-u-smaller
loop-u-smaller c = let a = c.in-Some.ensures.left in let b = c.in_ok-look.ensures.left in omega arith
