use Rattle.std.proofs.Common.{◌≡◌, length, map}
use Rattle.std.specs.List.{range_with_len}
use Rattle.abt_why.specs.Held.{shown_in, wait_shown}
use Rattle.abt_why.proofs.finding.waits.Given as goal

abbrev pub invariant-loop-u : goal.invariant-loop-u
invariant-loop-u l = record {
  waits : l.waits.items ≡ map (λ u. wait_shown l.w l.slots l.rows u (shown_in l.rows u)) (range_with_len 0 l.u);
  end : l.u-end ≡ length l.w.units;
}
