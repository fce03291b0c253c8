use Rattle.abt_kernels.specs.Mandelbrot.{mandelbrot_row}
use Rattle.abt_kernels.proofs.mandelbrot.mandelbrot_rows.Given as goal

abbrev pub ghosts-table_rows : goal.ghosts-table_rows
ghosts-table_rows g a = record { row_at = mandelbrot_row a.width a.height }
