-- A single log.
use Rattle.std.proofs.Common.{◌∙◌, sym}
use Rattle.abt_merge.proofs.Single.{alone}
use Rattle.abt_merge.proofs.merge.Goals as goal

pub returns-then-len-eq1-clause-merged : goal.returns-then-len-eq1-clause-merged
returns-then-len-eq1-clause-merged c = alone c.args.logs.items c.remove.result (sym c.args.logs.ok.0 ∙ (sym c.len.ensures ∙ c.if-len-eq1.true)) c.remove.ensures.value c.requires.logs
