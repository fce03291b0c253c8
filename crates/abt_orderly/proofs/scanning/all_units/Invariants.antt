use Rattle.abt_orderly.specs.Scanning.{HasUnits}
use Rattle.abt_orderly.proofs.scanning.all_units.Given as goal

abbrev pub invariant-loop-u : goal.invariant-loop-u
invariant-loop-u l = HasUnits l.u l.us.items
