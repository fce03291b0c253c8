use Rattle.std.proofs.Common.{sym}
use Rattle.abt_stream.proofs.stream.running.plan_for.Goals as goal

pub returns : goal.returns
returns c = c.planned.ensures c.args.unit.now.owned (sym c.number.ensures) (sym c.acc.ensures)
