use Rattle.std.proofs.Common.{◌≡◌, ◌∙◌, ◌*◌, ◌≤◌, ap, true}
use Rattle.std.proofs.Math.IntN.{ℤ, pos, ◌+ℤ◌, ◌-ℤ◌, ◌*ℤ◌}
use Rattle.std.specs.Int.RustNames.{unsigned_abs}
use Rattle.abt_kernels.specs.Mandelbrot.{is_inside, next, one, product}
use Rattle.abt_kernels.specs.declared.mandelbrot.Point.{Point}
use Rattle.abt_kernels.proofs.Coordinates.{coded, inside-small, product-kept, real-code, real-fits, twice-fits, imaginary-code, imaginary-fits, real-near, imaginary-near}
use Rattle.abt_kernels.proofs.mandelbrot.Point.next.Goals as goal

-- the squares of the coordinates, and their product
abbrev Products : Point → ℤ → ℤ → ℤ → Type 0
Products z xx yy xy = (xx ≡ product z.x z.x) × (unsigned_abs xx ≤ 4 * one) × (yy ≡ product z.y z.y) × (unsigned_abs yy ≤ 4 * one) × (xy ≡ product z.x z.y) × (unsigned_abs xy ≤ 4 * one)

products : (z : Point) (xx yy xy : ℤ) → is_inside z ≡ true → xx ≡ product (coded z.x) (coded z.x) → yy ≡ product (coded z.y) (coded z.y) → xy ≡ product (coded z.x) (coded z.y) → Products z xx yy xy
products z xx yy xy inside p q r =
    let small = inside-small z inside in
    let first = product-kept z.x z.x xx small.0 small.0 p in
    let second = product-kept z.y z.y yy small.1 small.1 q in
    let third = product-kept z.x z.y xy small.0 small.1 r in
    (first.0, first.1, second.0, second.1, third.0, third.1)

pub overflow_add-result : goal.overflow_add-result
overflow_add-result c =
    let z = c.args.self in
    let small = inside-small z c.requires.inside in
    real-fits c.product.result c.product-2.result c.args.c.x (product-kept z.x z.x c.product.result small.0 small.0 c.product.ensures).1
    (product-kept z.y z.y c.product-2.result small.1 small.1 c.product-2.ensures).1 c.requires.constant.0

pub overflow_mul-result : goal.overflow_mul-result
overflow_mul-result c =
    let all = products c.args.self c.product.result c.product-2.result c.product-3.result c.requires.inside c.product.ensures c.product-2.ensures c.product-3.ensures in
    twice-fits c.product-3.result all.5

pub overflow_add-result-2 : goal.overflow_add-result-2
overflow_add-result-2 c =
    let all = products c.args.self c.product.result c.product-2.result c.product-3.result c.requires.inside c.product.ensures c.product-2.ensures c.product-3.ensures in
    imaginary-fits c.product-3.result c.args.c.y all.5 c.requires.constant.1

next-is : (z c : Point) (xx yy xy x y : ℤ) → Products z xx yy xy → x ≡ xx -ℤ yy +ℤ c.x → y ≡ pos 2 *ℤ xy +ℤ c.y → ◌≡◌ {A = Point} (record { x = x; y = y }) (next c z)
next-is z c xx yy xy x y all p q =
    ap (λ k. let point : Point = record { x = k; y = y } in point) (p ∙ (ap (λ k. k -ℤ yy +ℤ c.x) all.0 ∙ ap (λ k. product z.x z.x -ℤ k +ℤ c.x) all.2)) ∙
    ap (λ k. let point : Point = record { x = product z.x z.x -ℤ product z.y z.y +ℤ c.x; y = k } in point) (q ∙ ap (λ k. pos 2 *ℤ k +ℤ c.y) all.4)

pub returns-clause-next : goal.returns-clause-next
returns-clause-next c =
    let all = products c.args.self c.product.result c.product-2.result c.product-3.result c.requires.inside c.product.ensures c.product-2.ensures c.product-3.ensures in
    next-is c.args.self c.args.c c.product.result c.product-2.result c.product-3.result _ _ all
    (real-code c.product.result c.product-2.result c.args.c.x all.1 all.3 c.requires.constant.0) (imaginary-code c.product-3.result c.args.c.y all.5 c.requires.constant.1)

pub returns-clause-near : goal.returns-clause-near
returns-clause-near c =
    let all = products c.args.self c.product.result c.product-2.result c.product-3.result c.requires.inside c.product.ensures c.product-2.ensures c.product-3.ensures in
    (real-near c.product.result c.product-2.result c.args.c.x all.1 all.3 c.requires.constant.0, imaginary-near c.product-3.result c.args.c.y all.5 c.requires.constant.1)
