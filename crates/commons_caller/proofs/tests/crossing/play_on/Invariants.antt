use Rattle.std.proofs.Common.{◌≡◌}
use Rattle.std.specs.List.{All}
use Rattle.abt_unit.specs.Fits.{Fits}
use Rattle.commons_caller.proofs.tests.crossing.play_on.Given as goal

abbrev pub invariant-loop : goal.invariant-loop
invariant-loop g l = g.C.Commons.is_of l.fn.commons l.pass × (g.C.Commons.number l.pass ≡ g.C.Commons.number l.fn.pass) × All (Fits l.fn.w) l.hand.units
