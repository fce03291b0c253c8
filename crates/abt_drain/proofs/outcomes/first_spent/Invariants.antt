-- No stream before is spent.
use Rattle.std.proofs.Common.{◌≡◌, ◌<◌, ℕ}
use Rattle.abt_drain.specs.Looks.{IsSpentAt}
use Rattle.abt_drain.proofs.outcomes.first_spent.Given as goal

abbrev pub invariant-loop-s : goal.invariant-loop-s
invariant-loop-s l = record {
  none : (r : ℕ) → r < l.s → IsSpentAt l.w l.fn.steps l.streams r → ⊥;
  end : l.s-end ≡ l.w.streams;
}
