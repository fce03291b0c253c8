use Rattle.std.proofs.Common.{refl}
use Rattle.abt_streams.proofs.FirstLines.{cut-at, cut-nowhere}
use Rattle.abt_streams.proofs.reading.first_line.Goals as goal

pub returns-in-Some : goal.returns-in-Some
returns-in-Some c = cut-at c.args.text.now _ _ _ c.in-Some.end c.in-Some.ensures.0 c.in-Some.ensures.1 c.in-Some.ensures.2 refl c.split_at.ensures.front c.split_at.ensures.back

pub returns-in-None : goal.returns-in-None
returns-in-None c = cut-nowhere c.args.text.now c.in-None.ensures
