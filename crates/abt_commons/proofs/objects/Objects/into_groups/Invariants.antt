-- The objects that are left.
use Rattle.std.proofs.Common.{◌≡◌, ◌+◌, ◌++◌, map, length}
use Rattle.std.specs.List.{All}
use Rattle.std.specs.Vec.Iter.{into_iter_items, into_iter_len}
use Rattle.abt_commons.specs.Groups.{FitsRow, rows_from, rows_in}
use Rattle.abt_commons.specs.Held.{OneValue}
use Rattle.abt_commons.proofs.objects.Objects.into_groups.Given as goal

abbrev pub invariant-loop-one : goal.invariant-loop-one
invariant-loop-one l = record {
  next : (goal.iterator-loop-one).can_next l.one-iterator;
  finite : (goal.iterator-loop-one).is_finite l.one-iterator;
  rows : rows_in l.groups.items ++ rows_from l.w l.number (map (λ (one : OneValue). one.object) (into_iter_items l.one-iterator)) ≡ rows_from l.w 0 (map (λ (one : OneValue). one.object) (into_iter_items l.initial.one-iterator));
  ours : All (λ (one : OneValue). one.workload ≡ l.w) (into_iter_items l.one-iterator);
  fits : All (FitsRow l.w) (rows_in l.groups.items);
  many : l.number + length (into_iter_items l.one-iterator) ≡ length (into_iter_items l.initial.one-iterator);
  left : into_iter_len l.one-iterator ≡ length (into_iter_items l.one-iterator);
}
