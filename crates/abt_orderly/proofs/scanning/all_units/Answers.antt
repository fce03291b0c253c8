use Rattle.abt_orderly.proofs.Waits.{more-units}
use Rattle.abt_orderly.proofs.scanning.all_units.Goals as goal

pub loop-u-preserved : goal.loop-u-preserved
loop-u-preserved c = more-units c.loop-u.u c.loop-u.us.items c.push.new.self.items c.in_ok-push.ensures.items c.loop-u.invariant
