use Rattle.std.proofs.Common.{◌≡◌, ◌++◌, flat_map, take}
use Rattle.abt_view.specs.Named.{named_line}
use Rattle.abt_view.proofs.shapes.push_named_lines.Given as goal

abbrev pub invariant-loop-note : goal.invariant-loop-note
invariant-loop-note l = l.out.items ≡ l.fn.out.items ++ flat_map (named_line l.names) (take l.note-index l.notes)
