use Rattle.abt_orderly.proofs.Keeping.{takes}
use Rattle.abt_orderly.proofs.passing.Passing.take.Goals as goal

pub returns : goal.returns
returns c = takes c.args.w.now c.args.self.now c.pop.new.self c.requires c.pop.result c.pop.ensures.items c.pop.ensures.cases
