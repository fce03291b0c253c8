use Rattle.std.proofs.Common.{◌≡◌, ◌<◌, ◌+◌, ◌*◌, ℕ, suc, arith, subst}
use Rattle.abt_functions.proofs.Roots.{is-root, one-root}
use Rattle.abt_functions.proofs.series.square_root.Goals as goal

pub returns : goal.returns
returns c = one-root c.args.n c.isqrt.result _ (c.isqrt.ensures.square_le, above c.isqrt.result c.isqrt.ensures.next_square_gt) (is-root c.args.n) where
  above : (r : ℕ) → c.args.n < (r + 1) * (r + 1) → c.args.n < suc r * suc r
  above r lt = let next : r + 1 ≡ suc r = omega arith in subst (λ k. c.args.n < k * k) next lt
