-- The pools of the streams before are empty.
use Rattle.std.proofs.Common.{ℕ, ◌≡◌, ◌<◌}
use Rattle.abt_model.specs.Ends.{HasEmptyPools}
use Rattle.abt_model.proofs.ends.are_empty.Given as goal

abbrev pub invariant-loop-s : goal.invariant-loop-s
invariant-loop-s l = record {
  empty : (r : ℕ) → r < l.s → HasEmptyPools l.w l.objects r;
  end : l.s-end ≡ l.w.streams;
}
