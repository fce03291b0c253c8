use Rattle.abt_orderly.proofs.Scanned.{more-standings}
use Rattle.abt_orderly.proofs.scanning.first_standings.Goals as goal

pub loop-u-preserved : goal.loop-u-preserved
loop-u-preserved c = more-standings c.args.w.now c.loop-u.u c.loop-u.standing.items c.push.new.self.items c.first_standing.result c.in_ok-push.ensures.items c.loop-u.invariant c.first_standing.ensures
