use Rattle.std.proofs.Common.{◌≡◌, filter, map}
use Rattle.std.specs.List.{range_with_len}
use Rattle.abt_commons.specs.Held.{object_at}
use Rattle.abt_streams.specs.Looks.{is_live_with}
use Rattle.abt_streams.proofs.living.find_live.Given as goal

abbrev pub invariant-loop-s : goal.invariant-loop-s
invariant-loop-s l = record {
  flags : l.flags.items ≡ map (is_live_with (object_at l.objects) l.lives) (range_with_len 0 l.s);
  numbers : l.numbers.items ≡ filter (is_live_with (object_at l.objects) l.lives) (range_with_len 0 l.s);
  end : l.s-end ≡ l.w.streams;
}
