use Rattle.std.proofs.Common.{◌≤◌, length, subst}
use Rattle.abt_orderly.proofs.Scanned.{scan-next}
use Rattle.abt_orderly.proofs.scanning.scan_unit.Goals as goal

pub returns : goal.returns
returns c =
    scan-next c.args.w.now c.args.u.0 c.loop-k.k (length c.args.w.now.units) c.loop-k.standing c.loop-k.invariant
    (subst (λ n. n ≤ c.loop-k.k) c.ops_count-k-end.ensures c.loop-k-test.false)
