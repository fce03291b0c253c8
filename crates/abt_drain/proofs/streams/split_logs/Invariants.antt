-- The streams that are left.
use Rattle.std.proofs.Common.{◌≡◌, length}
use Rattle.std.specs.Vec.Iter.{into_iter_items, into_iter_len}
use Rattle.abt_drain.specs.Ends.{IsSplit}
use Rattle.abt_drain.proofs.streams.split_logs.Given as goal

abbrev pub invariant-streams : goal.invariant-streams
invariant-streams l = record {
  next : (goal.iterator-streams).can_next l.stream-iterator;
  finite : (goal.iterator-streams).is_finite l.stream-iterator;
  split : IsSplit l.keeps (into_iter_items l.initial.stream-iterator) (into_iter_items l.stream-iterator) l.logs.items l.rest.items;
  left : into_iter_len l.stream-iterator ≡ length (into_iter_items l.stream-iterator);
}
