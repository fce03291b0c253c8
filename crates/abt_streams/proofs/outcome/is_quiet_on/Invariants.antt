-- The streams before have nothing to do.
use Rattle.std.proofs.Common.{◌≡◌, ◌<◌, ℕ}
use Rattle.abt_streams.specs.Looks.{IsQuietOnAt}
use Rattle.abt_streams.proofs.outcome.is_quiet_on.Given as goal

abbrev pub invariant-loop-s : goal.invariant-loop-s
invariant-loop-s l = record {
  quiet : (r : ℕ) → r < l.s → IsQuietOnAt l.w l.lives l.streams l.objects r;
  end : l.s-end ≡ l.w.streams;
}
