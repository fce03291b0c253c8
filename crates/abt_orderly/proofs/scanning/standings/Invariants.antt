use Rattle.std.proofs.Common.{length}
use Rattle.abt_orderly.specs.Scanning.{HasScanned}
use Rattle.abt_orderly.proofs.scanning.standings.Given as goal

abbrev pub invariant-loop-u : goal.invariant-loop-u
invariant-loop-u l = HasScanned l.w l.u 0 (length l.w.units) l.standing.items
