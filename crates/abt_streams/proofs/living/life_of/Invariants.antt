-- The lives before are of other streams.
use Rattle.std.proofs.Common.{◌≡◌, drop}
use Rattle.abt_streams.specs.Living.{life_of}
use Rattle.abt_streams.proofs.living.life_of.Given as goal

abbrev pub invariant-loop-life : goal.invariant-loop-life
invariant-loop-life l = life_of l.lives l.s.0 ≡ life_of (drop l.life-index l.lives) l.s.0
