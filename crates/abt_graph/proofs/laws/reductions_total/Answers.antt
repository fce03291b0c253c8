use Rattle.abt_graph.proofs.Totals.{last-total}
use Rattle.abt_graph.proofs.laws.reductions_total.Goals as goal

pub returns : goal.returns
returns c R n f g values two reduced total is give = last-total R n f g total is give values reduced two
