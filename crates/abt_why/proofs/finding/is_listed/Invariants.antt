-- No main scheduler of the streams before lists it.
use Rattle.std.proofs.Common.{◌≡◌, false}
use Rattle.std.specs.List.{list_any, range_with_len}
use Rattle.abt_why.specs.Waits.{main_lists}
use Rattle.abt_why.proofs.finding.is_listed.Given as goal

abbrev pub invariant-loop-s : goal.invariant-loop-s
invariant-loop-s l = record {
  none : list_any (main_lists l.w l.p.0) (range_with_len 0 l.s) ≡ false;
  end : l.s-end ≡ l.w.streams;
}
