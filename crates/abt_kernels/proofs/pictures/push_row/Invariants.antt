use Rattle.std.proofs.Common.{◌≡◌, ◌++◌, map, min, take}
use Rattle.abt_kernels.proofs.pictures.push_row.Given as goal

abbrev pub invariant-loop-word : goal.invariant-loop-word
invariant-loop-word l = l.text.items ≡ l.fn.text.items ++ map (min 255) (take l.word-index l.row)
