use Rattle.std.proofs.Common.{◌≡◌, flat_map}
use Rattle.std.specs.List.{range_with_len}
use Rattle.abt_view.specs.Stretches.{stretches_of}
use Rattle.abt_view.proofs.stretches.all_stretches.Given as goal

abbrev pub invariant-loop-s : goal.invariant-loop-s
invariant-loop-s l = l.all.items ≡ flat_map (stretches_of l.notes) (range_with_len 0 l.s)
