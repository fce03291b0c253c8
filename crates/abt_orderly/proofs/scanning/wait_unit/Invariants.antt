use Rattle.abt_orderly.specs.Scanning.{HasWaited}
use Rattle.abt_orderly.proofs.scanning.wait_unit.Given as goal

abbrev pub invariant-loop-k : goal.invariant-loop-k
invariant-loop-k l = HasWaited l.w l.u.0 l.k l.waiting.items
