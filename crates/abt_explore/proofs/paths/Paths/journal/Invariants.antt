use Rattle.std.proofs.Common.{◌≡◌, ◌<◌, ◌++◌, [], get_or, length, reverse}
use Rattle.abt_explore.proofs.paths.Paths.journal.Given as goal

abbrev pub invariant-loop-at : goal.invariant-loop-at
invariant-loop-at l = record {
  below : l.at < length l.self;
  so_far : get_or l.self l.node [] ≡ get_or l.self l.at [] ++ reverse l.events.items;
}

abbrev pub decreases-loop-at : goal.decreases-loop-at
decreases-loop-at l = l.at
