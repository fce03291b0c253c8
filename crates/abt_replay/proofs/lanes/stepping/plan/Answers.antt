use Rattle.std.proofs.Common.{sym}
use Rattle.abt_replay.proofs.lanes.stepping.plan.Goals as goal

pub returns : goal.returns
returns c = c.planned.ensures c.args.unit.now (sym c.number.ensures) (sym c.acc.ensures)
