use Rattle.std.proofs.Common.{ℕ, ◌<◌, ◌≤◌, length, get_or}
use Rattle.abt_order.specs.Places.{distance}
use Rattle.abt_order.proofs.places.nearest.Given as goal

abbrev pub invariant-loop-k : goal.invariant-loop-k
invariant-loop-k l = record {
  among : l.best < length l.left;
  nearest : (k : ℕ) → k < l.k → distance l.n l.answer (get_or l.left l.best 0) ≤ distance l.n l.answer (get_or l.left k 0);
}
