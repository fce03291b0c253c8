-- Counts, sums and the length of the merge.
use Rattle.abt_interleave.proofs.Tallies.{merges-count-each, merges-sum, merges-lengthen}
use Rattle.abt_interleave.proofs.merges.merges_count.Goals as goal

pub returns-clause-each : goal.returns-clause-each
returns-clause-each g c = merges-count-each g.row.E.Denot

pub returns-clause-sum : goal.returns-clause-sum
returns-clause-sum g c = merges-sum g.row.E.Denot

pub returns-clause-length : goal.returns-clause-length
returns-clause-length g c = merges-lengthen g.row.E.Denot
