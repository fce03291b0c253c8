use Rattle.std.proofs.Common.{length}
use Rattle.abt_orderly.specs.Scanning.{HasScanned}
use Rattle.abt_orderly.proofs.scanning.scan_unit.Given as goal

abbrev pub invariant-loop-k : goal.invariant-loop-k
invariant-loop-k l = HasScanned l.w l.u.0 l.k (length l.w.units) l.standing
