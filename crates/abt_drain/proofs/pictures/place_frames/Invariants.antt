-- The units that are left.
use Rattle.std.proofs.Common.{◌≡◌, length, map}
use Rattle.std.specs.Vec.Iter.{into_iter_items, into_iter_len}
use Rattle.abt_calls.specs.Showing.{rows_as}
use Rattle.abt_commons.specs.Acts.{owned}
use Rattle.abt_drain.specs.Pictures.{AreBelow, placed}
use Rattle.abt_drain.proofs.pictures.place_frames.Given as goal

abbrev pub invariant-loop-unit : goal.invariant-loop-unit
invariant-loop-unit l = record {
  next : (goal.iterator-loop-unit).can_next l.unit-iterator;
  finite : (goal.iterator-loop-unit).is_finite l.unit-iterator;
  rows : placed (rows_as l.shown (map owned (into_iter_items l.unit-iterator))) l.rows.items ≡ placed (rows_as l.shown (map owned (into_iter_items l.initial.unit-iterator))) l.fn.rows.items;
  below : AreBelow (length l.rows.items) (map owned (into_iter_items l.unit-iterator));
  left : into_iter_len l.unit-iterator ≡ length (into_iter_items l.unit-iterator);
}
