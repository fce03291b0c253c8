-- The run between waves.
use Rattle.abt_order.specs.Stored.{stored_of}
use Rattle.abt_streams.specs.Runs.{HasLedTo}
use Rattle.abt_streams.proofs.journey.go.Given as goal

abbrev pub invariant-waves : goal.invariant-waves
invariant-waves g l = record {
  next : (goal.iterator-waves g).can_next l.iterator';
  finite : (goal.iterator-waves g).is_finite l.iterator';
  under_way : HasLedTo l.w (stored_of l.orders (g.P.Work.returns l.work)) l.steps l.lives l.journey.objects l.journey.streams.items l.journey.journal.items l.journey.waves.items;
}
