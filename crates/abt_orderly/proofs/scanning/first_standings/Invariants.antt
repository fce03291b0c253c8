use Rattle.abt_orderly.specs.Scanning.{HasScanned}
use Rattle.abt_orderly.proofs.scanning.first_standings.Given as goal

abbrev pub invariant-loop-u : goal.invariant-loop-u
invariant-loop-u l = HasScanned l.w 0 0 l.u l.standing.items
