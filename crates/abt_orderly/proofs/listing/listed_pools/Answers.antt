use Rattle.std.proofs.Common.{◌≤◌, subst}
use Rattle.abt_orderly.proofs.Listed.{streams-listed}
use Rattle.abt_orderly.proofs.listing.listed_pools.Goals as goal

pub returns : goal.returns
returns c = streams-listed c.args.w.now c.loop-s.s c.loop-s.listed.items (subst (λ n. n ≤ c.loop-s.s) c.streams-s-end.ensures.count c.loop-s-test.false) c.loop-s.invariant
