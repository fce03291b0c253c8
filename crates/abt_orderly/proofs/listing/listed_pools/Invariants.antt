use Rattle.abt_orderly.specs.Listing.{HasListed}
use Rattle.abt_orderly.proofs.listing.listed_pools.Given as goal

abbrev pub invariant-loop-s : goal.invariant-loop-s
invariant-loop-s l = HasListed l.w l.s l.listed.items
