use Rattle.std.proofs.Common.{◌+◌, ◌<◌, length, subst, sym}
use Rattle.abt_orderly.specs.Scanning.{HasScanned}
use Rattle.abt_orderly.proofs.Needing.{creates-declared}
use Rattle.abt_orderly.proofs.Scanned.{scan-none, scan-some}
use Rattle.abt_orderly.proofs.scanning.scan_at.Goals as goal

pub unmake-requires : goal.unmake-requires
unmake-requires c = subst (λ n. c.in-Some.v.0 < n) (sym c.requires.scanned.all) (creates-declared c.args.w.now c.args.u.0 c.args.k c.in-Some.v c.known.ensures (sym c.in-Some.ensures))

pub returns-in-Some : goal.returns-in-Some
returns-in-Some c =
    subst (HasScanned c.args.w.now c.args.u.0 (c.args.k + 1) (length c.args.w.now.units)) (sym c.unmake.ensures)
    (scan-some c.args.w.now c.args.u.0 c.args.k (length c.args.w.now.units) c.args.standing.now c.requires.scanned c.in-Some.v (sym c.in-Some.ensures)
    (subst (λ n. c.in-Some.v.0 < n) (sym c.requires.scanned.all) (creates-declared c.args.w.now c.args.u.0 c.args.k c.in-Some.v c.known.ensures (sym c.in-Some.ensures))))

pub returns-in-None : goal.returns-in-None
returns-in-None c = scan-none c.args.w.now c.args.u.0 c.args.k (length c.args.w.now.units) c.args.standing.now c.requires.scanned (sym c.in-None.ensures)
