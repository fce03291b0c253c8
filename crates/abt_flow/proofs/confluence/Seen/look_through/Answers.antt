use Rattle.std.proofs.Common.{◌≤◌, subst}
use Rattle.abt_flow.proofs.Clearing.{clears-on}
use Rattle.abt_flow.proofs.confluence.Seen.look_through.Goals as goal

pub returns : goal.returns
returns c =
    clears-on c.args.w.now c.args.u.0 c.loop-k.k c.loop-k.self c.loop-k.invariant (subst (λ n. n ≤ c.loop-k.k) c.ops_count-k-end.ensures c.loop-k-test.false)
