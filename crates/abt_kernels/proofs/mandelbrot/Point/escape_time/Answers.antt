use Rattle.std.proofs.Common.{◌≡◌, ◌∙◌, ◌+◌, ◌-◌, ap, arith, subst, sym}
use Rattle.abt_kernels.specs.Mandelbrot.{escape_time, steps_to_leave}
use Rattle.abt_kernels.proofs.Escaping.{counted-inside, counted-outside, none-at-limit}
use Rattle.abt_kernels.proofs.mandelbrot.Point.escape_time.Goals as goal

pub returns-then-not-is_inside : goal.returns-then-not-is_inside
returns-then-not-is_inside c = counted-outside c.args.self c.loop-n.z c.loop-n.n (escape_time c.args.self) (omega arith) (sym c.if-not-is_inside.ensures) c.loop-n.invariant.counted

pub loop-n-preserved : goal.loop-n-preserved
loop-n-preserved c = record {
  counted =
      subst (λ z. c.loop-n.n + 1 + steps_to_leave c.args.self z (255 - (c.loop-n.n + 1)) ≡ escape_time c.args.self) (sym c.next-z.ensures.next)
      (counted-inside c.args.self c.loop-n.z c.loop-n.n (escape_time c.args.self) (omega arith) (sym c.if-not-is_inside.ensures) c.loop-n.invariant.counted);
  near = c.next-z.ensures.near;
}

pub returns : goal.returns
returns c =
    let end : c.loop-n.n ≡ 255 = omega arith in
    let left : 255 - c.loop-n.n ≡ 0 = omega arith in
    let none : steps_to_leave c.args.self c.loop-n.z (255 - c.loop-n.n) ≡ 0 = ap (steps_to_leave c.args.self c.loop-n.z) left ∙ none-at-limit c.args.self c.loop-n.z in
    let counted = c.loop-n.invariant.counted in
    omega arith
