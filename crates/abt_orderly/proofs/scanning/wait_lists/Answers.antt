use Rattle.std.proofs.Common.{◌≤◌, subst}
use Rattle.abt_orderly.proofs.Waits.{wait-all}
use Rattle.abt_orderly.proofs.scanning.wait_lists.Goals as goal

pub returns : goal.returns
returns c = wait-all c.args.w.now c.loop-u.u c.loop-u.waiting.items (subst (λ n. n ≤ c.loop-u.u) c.units-u-end.ensures c.loop-u-test.false) c.loop-u.invariant
