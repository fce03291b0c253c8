-- The pass and the hand stay the workload's.
use Rattle.std.specs.List.{All}
use Rattle.abt_unit.specs.Fits.{Fits}
use Rattle.commons_caller.proofs.tests.take_some.Given as goal

abbrev pub invariant-loop-u : goal.invariant-loop-u
invariant-loop-u g l = g.C.Commons.is_of l.fn.commons l.pass × All (Fits l.fn.w) l.hand.units
