use Rattle.std.specs.List.{All}
use Rattle.abt_unit.specs.Fits.{Fits}
use Rattle.commons_caller.proofs.tests.players.play_all.Given as goal

abbrev pub invariant-loop-row : goal.invariant-loop-row
invariant-loop-row g l = g.C.Commons.is_of l.fn.commons l.pass × All (Fits l.fn.w) l.hand.units
