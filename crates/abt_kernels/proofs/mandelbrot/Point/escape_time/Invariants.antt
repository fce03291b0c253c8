use Rattle.std.proofs.Common.{◌≡◌, ◌+◌, ◌-◌}
use Rattle.abt_kernels.specs.Mandelbrot.{IsNear, escape_time, steps_to_leave}
use Rattle.abt_kernels.proofs.mandelbrot.Point.escape_time.Given as goal

abbrev pub invariant-loop-n : goal.invariant-loop-n
invariant-loop-n l = record {
  counted : l.n + steps_to_leave l.self l.z (255 - l.n) ≡ escape_time l.self;
  near : IsNear 16 l.z;
}
