use Rattle.std.proofs.Common.{◌≡◌, ◌++◌, map, min, take}
use Rattle.std.specs.List.{concat}
use Rattle.abt_kernels.specs.Pictures.{pgm_head}
use Rattle.abt_kernels.proofs.pictures.picture.Given as goal

abbrev pub invariant-loop-row : goal.invariant-loop-row
invariant-loop-row l = l.text.items ≡ pgm_head l.fn.width l.fn.height ++ map (min 255) (concat (map (λ row. row.items) (take l.row-index l.rows)))
