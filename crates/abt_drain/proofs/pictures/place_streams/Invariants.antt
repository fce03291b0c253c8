-- The streams that are left.
use Rattle.std.proofs.Common.{◌≡◌, ◌+◌, length}
use Rattle.std.specs.List.{All}
use Rattle.std.specs.Vec.Iter.{into_iter_items, into_iter_len}
use Rattle.abt_drain.specs.Pictures.{LeavesWhatFits, placed, rows_left}
use Rattle.abt_drain.proofs.pictures.place_streams.Given as goal

abbrev pub invariant-loop-parts : goal.invariant-loop-parts
invariant-loop-parts l = record {
  next : (goal.iterator-loop-parts).can_next l.parts-iterator;
  finite : (goal.iterator-loop-parts).is_finite l.parts-iterator;
  rows : placed (rows_left l.s (into_iter_items l.parts-iterator)) l.rows.items ≡ placed (rows_left 0 (into_iter_items l.initial.parts-iterator)) l.fn.rows.items;
  fits : All (LeavesWhatFits l.w) (into_iter_items l.parts-iterator);
  units : length l.rows.items ≡ length l.w.units;
  many : l.s + length (into_iter_items l.parts-iterator) ≡ l.w.streams;
  left : into_iter_len l.parts-iterator ≡ length (into_iter_items l.parts-iterator);
}
