use Rattle.std.proofs.Common.{◌≡◌, length}
use Rattle.abt_callbacks.specs.Rings.{ends_of}
use Rattle.trials_booth.proofs.rings.run_rounds.Given as goal

abbrev pub invariant-loop-sets : goal.invariant-loop-sets
invariant-loop-sets g l = l.keys ≡ length (ends_of l.ring)

abbrev pub invariant-loop-key : goal.invariant-loop-key
invariant-loop-key g l = l.keys ≡ length (ends_of l.ring)
