use Rattle.std.proofs.Common.{◌≤◌, subst}
use Rattle.abt_orderly.proofs.Scanned.{scan-all}
use Rattle.abt_orderly.proofs.scanning.standings.Goals as goal

pub returns : goal.returns
returns c = scan-all c.args.w.now c.loop-u.u (subst (λ n. n ≤ c.loop-u.u) c.units-u-end.ensures c.loop-u-test.false) c.loop-u.standing.items c.loop-u.invariant
