use Rattle.std.proofs.Common.{◌≡◌, ◌++◌, flat_map}
use Rattle.std.specs.List.{filter_map, range_with_len}
use Rattle.abt_why.specs.Cycles.{cycle_from}
use Rattle.abt_why.specs.Texts.{cycle_line}
use Rattle.abt_why.proofs.cycles.push_all.Given as goal

abbrev pub invariant-loop-u : goal.invariant-loop-u
invariant-loop-u l = l.out.items ≡ l.fn.out.items ++ flat_map cycle_line (filter_map (cycle_from l.awaited) (range_with_len 0 l.u))
