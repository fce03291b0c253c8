use Rattle.std.proofs.Common.{◌≡◌, map}
use Rattle.std.specs.List.{range_with_len}
use Rattle.abt_kernels.specs.Mandelbrot.{escape_time, point_at}
use Rattle.abt_kernels.proofs.mandelbrot.row.Given as goal

abbrev pub invariant-loop-column : goal.invariant-loop-column
invariant-loop-column l = l.row.items ≡ map (λ column. escape_time (point_at l.fn.width l.fn.height l.fn.line column)) (range_with_len 0 l.column)
