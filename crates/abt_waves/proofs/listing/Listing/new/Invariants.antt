-- The streams that are still to be marked.
use Rattle.std.proofs.Common.{◌≡◌}
use Rattle.abt_waves.proofs.listing.Listing.new.Given as goal

abbrev pub invariant-loop-s : goal.invariant-loop-s
invariant-loop-s l = l.s-end ≡ l.w.streams
