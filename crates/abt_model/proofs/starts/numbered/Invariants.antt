use Rattle.abt_model.specs.Lists.{AreMade}
use Rattle.abt_model.proofs.starts.numbered.Given as goal

abbrev pub invariant-loop-k : goal.invariant-loop-k
invariant-loop-k g l = AreMade (goal.F-post g l.make) l.k l.items.items
