use Rattle.abt_kernels.proofs.Escaping.{is-escape-time}
use Rattle.abt_kernels.proofs.mandelbrot.escape_times.Goals as goal

pub returns : goal.returns
returns c = is-escape-time
