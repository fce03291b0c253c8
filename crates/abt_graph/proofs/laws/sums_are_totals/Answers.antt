use Rattle.abt_graph.proofs.Sums.{returns-word_sum, word_sum-total}
use Rattle.abt_graph.proofs.laws.sums_are_totals.Goals as goal

pub returns : goal.returns
returns c = record { total = word_sum-total; returned = returns-word_sum }
