use Rattle.std.proofs.Common.{◌<◌, length, arith}
use Rattle.abt_flow.proofs.Finds.{reached-declared}
use Rattle.abt_flow.proofs.Running.{next-is, unit-read, unit-there}
use Rattle.abt_flow.proofs.table.Table.next.Goals as goal

pub index-requires : goal.index-requires
index-requires g c = let l : c.args.u.0 < length c.args.self.now.units.items = unit-there c.known.ensures c.requires.reached c.requires.runs in omega arith

pub op-requires : goal.op-requires
op-requires g c = reached-declared c.args.w.now c.args.u.0 c.known.ensures c.requires.reached

pub returns : goal.returns
returns g c =
    next-is c.args.w.now c.args.self.now.units.items c.args.u.0 c.index.result.now (unit-read c.known.ensures c.requires.reached c.requires.runs c.index.ensures) c.op.result c.op.ensures
