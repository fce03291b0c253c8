-- The streams before have nothing to do.
use Rattle.std.proofs.Common.{◌≡◌, ◌<◌, ℕ}
use Rattle.abt_drain.specs.Looks.{IsQuietAt}
use Rattle.abt_drain.proofs.outcomes.is_quiet.Given as goal

abbrev pub invariant-loop-s : goal.invariant-loop-s
invariant-loop-s l = record {
  quiet : (r : ℕ) → r < l.s → IsQuietAt l.w l.streams l.objects r;
  end : l.s-end ≡ l.w.streams;
}
