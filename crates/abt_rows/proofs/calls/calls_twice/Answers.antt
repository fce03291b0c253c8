use Rattle.std.proofs.Common.{refl}
use Rattle.abt_rows.proofs.Deciding.{apart, holds}
use Rattle.abt_rows.proofs.calls.calls_twice.Goals as goal

pub returns : goal.returns
returns c h = holds (apart 1 0) refl h.2.2.2.1.2
