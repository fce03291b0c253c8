-- Item by item.
use Rattle.abt_interleave.proofs.HalfMerged.{merging-begins, merging-goes-on, merging-ends}
use Rattle.abt_interleave.proofs.merges.merging_goes_on.Goals as goal

pub returns-clause-begin : goal.returns-clause-begin
returns-clause-begin g c = merging-begins g.row.E.Denot

pub returns-clause-go : goal.returns-clause-go
returns-clause-go g c = merging-goes-on g.row.E.Denot

pub returns-clause-end : goal.returns-clause-end
returns-clause-end g c = merging-ends g.row.E.Denot
