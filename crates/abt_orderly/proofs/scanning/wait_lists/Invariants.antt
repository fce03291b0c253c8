use Rattle.abt_orderly.specs.Scanning.{HasWaited}
use Rattle.abt_orderly.proofs.scanning.wait_lists.Given as goal

abbrev pub invariant-loop-u : goal.invariant-loop-u
invariant-loop-u l = HasWaited l.w l.u 0 l.waiting.items
