use Rattle.std.proofs.Common.{◌≡◌, ℕ, ◌<◌, length, get_or}
use Rattle.std.specs.Prelude.{IsPermutation, IsTrue}
use Rattle.std.specs.List.{range_with_len}
use Rattle.abt_order.specs.Places.{HasNearestAnswer}
use Rattle.abt_order.specs.Shapes.{fits_shape}
use Rattle.abt_order.specs.Stored.{answers_of}
use Rattle.abt_order.proofs.places.arrange.Given as goal

abbrev pub invariant-loop-i : goal.invariant-loop-i
invariant-loop-i g l = record {
  count : length l.places ≡ l.n;
  permuted : IsPermutation (range_with_len 0 l.n) l.places;
  fit : (k : ℕ) → k < l.i → IsTrue (fits_shape l.order.shape l.round l.n k (get_or l.places k 0));
  asked : (k : ℕ) → k < l.i → HasNearestAnswer (answers_of l.order l.round) l.n l.places k;
}
