use Rattle.std.proofs.Common.{◌∙◌, ap}
use Rattle.abt_kernels.specs.Mandelbrot.{escape_time, point_at}
use Rattle.abt_kernels.proofs.Pixels.{range-more}
use Rattle.abt_kernels.proofs.mandelbrot.row.Goals as goal

pub loop-column-preserved : goal.loop-column-preserved
loop-column-preserved c =
    range-more (λ column. escape_time (point_at c.args.width c.args.height c.args.line column)) c.loop-column.row.items c.push.new.self.items c.loop-column.column c.escape_time.result
    c.loop-column.invariant c.in_ok-push.ensures.items (c.escape_time.ensures ∙ ap escape_time c.point_at.ensures.point)
