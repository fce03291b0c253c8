use Rattle.abt_kernels.proofs.Coordinates.{inside-code}
use Rattle.abt_kernels.proofs.mandelbrot.Point.is_inside.Goals as goal

pub returns : goal.returns
returns c = inside-code c.args.self.x c.args.self.y c.requires.near.0 c.requires.near.1
