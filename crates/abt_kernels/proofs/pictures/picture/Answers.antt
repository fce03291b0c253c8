use Rattle.std.proofs.Common.{◌∙◌, ◌++◌, ap, arith, map, min}
use Rattle.abt_kernels.specs.Pictures.{pgm_head}
use Rattle.abt_kernels.proofs.Pixels.{row-more}
use Rattle.abt_kernels.proofs.pictures.picture.Goals as goal

pub loop-row-preserved : goal.loop-row-preserved
loop-row-preserved c =
    row-more (pgm_head c.args.width c.args.height) c.loop-row.text.items c.push_row.new.text.items (min 255) (λ row. row.items) c.args.rows.now c.loop-row.row-index c.row-item.result c.row-item.result (omega arith)
    c.row-item.is c.loop-row.invariant (c.in_ok-push_row.ensures ∙ ap (λ row. c.loop-row.text.items ++ map (min 255) row) c.deref.ensures.value)
