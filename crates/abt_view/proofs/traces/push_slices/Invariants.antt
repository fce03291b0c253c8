use Rattle.std.proofs.Common.{◌≡◌, ◌++◌, flat_map, take}
use Rattle.abt_view.specs.Trace.{slice_text}
use Rattle.abt_view.proofs.traces.push_slices.Given as goal

abbrev pub invariant-loop-slice : goal.invariant-loop-slice
invariant-loop-slice l = l.out.items ≡ l.fn.out.items ++ flat_map slice_text (take l.slice-index l.slices)
