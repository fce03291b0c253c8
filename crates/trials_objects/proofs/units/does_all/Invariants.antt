use Rattle.abt_unit.specs.Fits.{Fits}
use Rattle.trials_objects.proofs.units.does_all.Given as goal

abbrev pub invariant-loop : goal.invariant-loop
invariant-loop g l = Fits l.fn.w l.unit.owned
