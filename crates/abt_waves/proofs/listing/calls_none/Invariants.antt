-- The units that are still to be looked at.
use Rattle.std.proofs.Common.{◌≡◌, length}
use Rattle.abt_waves.proofs.listing.calls_none.Given as goal

abbrev pub invariant-loop-u : goal.invariant-loop-u
invariant-loop-u l = l.u-end ≡ length l.w.units
