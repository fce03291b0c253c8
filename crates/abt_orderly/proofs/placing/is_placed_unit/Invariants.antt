use Rattle.std.proofs.Common.{ℕ, ◌<◌}
use Rattle.abt_orderly.specs.Listing.{IsPlacedAt}
use Rattle.abt_orderly.proofs.placing.is_placed_unit.Given as goal

abbrev pub invariant-loop-k : goal.invariant-loop-k
invariant-loop-k l = (j : ℕ) → j < l.k → IsPlacedAt l.w l.u.0 j
