use Rattle.std.proofs.Common.{◌*◌, ◌/◌, ◌≤◌, arith}
use Rattle.abt_kernels.proofs.Pixels.{coordinate-small, offset-small}
use Rattle.abt_kernels.proofs.mandelbrot.point_at.Goals as goal

pub returns-clause-near : goal.returns-clause-near
returns-clause-near c =
    let right : 117440512 * c.from.result / (2 * c.from-2.result) ≤ 58720256 = offset-small 58720256 c.from.result c.from-2.result (omega arith) in
    let down : 83886080 * c.from-3.result / (2 * c.from-4.result) ≤ 41943040 = offset-small 41943040 c.from-3.result c.from-4.result (omega arith) in
    (coordinate-small (117440512 * c.from.result / (2 * c.from-2.result)) 41943040 (omega arith) (omega arith), coordinate-small (83886080 * c.from-3.result / (2 * c.from-4.result)) 20971520 (omega arith) (omega arith))
