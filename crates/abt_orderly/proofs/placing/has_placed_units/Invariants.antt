use Rattle.std.proofs.Common.{ℕ, ◌<◌}
use Rattle.abt_orderly.specs.Listing.{IsPlacedUnit}
use Rattle.abt_orderly.proofs.placing.has_placed_units.Given as goal

abbrev pub invariant-loop-u : goal.invariant-loop-u
invariant-loop-u l = (v : ℕ) → v < l.u → IsPlacedUnit l.w v
