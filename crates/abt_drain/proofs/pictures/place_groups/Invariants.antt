-- The groups that are left.
use Rattle.std.proofs.Common.{◌≡◌, ◌<◌, length}
use Rattle.std.specs.List.{All}
use Rattle.std.specs.Vec.Iter.{into_iter_items, into_iter_len}
use Rattle.abt_calls.specs.Showing.{Row}
use Rattle.abt_commons.specs.Groups.{rows_in}
use Rattle.abt_drain.specs.Pictures.{placed}
use Rattle.abt_drain.proofs.pictures.place_groups.Given as goal

abbrev pub invariant-loop-group : goal.invariant-loop-group
invariant-loop-group l = record {
  next : (goal.iterator-loop-group).can_next l.group-iterator;
  finite : (goal.iterator-loop-group).is_finite l.group-iterator;
  rows : placed (rows_in (into_iter_items l.group-iterator)) l.rows.items ≡ placed (rows_in (into_iter_items l.initial.group-iterator)) l.fn.rows.items;
  below : All (λ (row : Row). row.1.number < length l.rows.items) (rows_in (into_iter_items l.group-iterator));
  left : into_iter_len l.group-iterator ≡ length (into_iter_items l.group-iterator);
}
