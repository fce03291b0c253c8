use Rattle.std.proofs.Common.{refl}
use Rattle.abt_rows.proofs.Deciding.{apart, holds}
use Rattle.abt_rows.proofs.calls.returns_another_word.Goals as goal

pub returns : goal.returns
returns c h = holds (apart 2 1) refl h.2.2.1.3
