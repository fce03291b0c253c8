use Rattle.std.proofs.Common.{◌≤◌, subst}
use Rattle.abt_orderly.proofs.Waits.{wait-next}
use Rattle.abt_orderly.proofs.scanning.wait_unit.Goals as goal

pub returns : goal.returns
returns c =
    wait-next c.args.w.now c.args.u c.loop-k.k c.loop-k.waiting.items c.loop-k.invariant (subst (λ n. n ≤ c.loop-k.k) c.ops_count-k-end.ensures c.loop-k-test.false)
