use Rattle.std.proofs.Common.{rules}
use Rattle.abt_unit.proofs.Fitting.{Fits-local_step, key-op_at}
use Rattle.abt_unit.proofs.unit.Unit.step_local.Goals as goal

pub step-requires-clause-key : goal.step-requires-clause-key
step-requires-clause-key c =
    key-op_at c.args.w.now c.args.self.now.owned c.in-Some.op c.known.ensures c.requires.fits (search rules)

pub returns-clause-fits : goal.returns-clause-fits
returns-clause-fits c =
    Fits-local_step c.args.w.now c.args.self.now.owned _ c.known.ensures c.requires.fits (search rules)
