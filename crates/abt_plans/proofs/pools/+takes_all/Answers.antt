use Rattle.std.proofs.Common.{rules, ◌<◌, ℕ, length}
use Rattle.abt_plans.proofs.Listed.{others_declared}
use Rattle.abt_plans.proofs.pools.+takes_all.Goals as goal

pub takes_all-requires : goal.takes_all-requires
takes_all-requires t c = (
  (search rules),
  (
    c.requires.stream,
    others_declared (λ (p : ℕ). p < length c.args.w.now.pools) c.in-Some.p.now c.args.pools.now c.in-Some.others.now (search rules) c.requires.pools,
  ),
)
