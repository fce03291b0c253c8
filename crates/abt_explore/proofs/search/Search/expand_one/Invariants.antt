use Rattle.std.proofs.Common.{Some}
use Rattle.abt_model.specs.Stored.{stored_with}
use Rattle.abt_explore.specs.Searches.{Grows, IsMet, IsSearching}
use Rattle.abt_explore.proofs.search.Search.expand_one.Given as goal

abbrev pub invariant-loop-stream : goal.invariant-loop-stream
invariant-loop-stream g l = record {
  grows : Grows l.initial.self l.self;
  met : IsMet l.w (stored_with l.z (g.P.Work.returns l.work)) l.self.paths l.found;
  searching : IsSearching l.w (stored_with l.z (g.P.Work.returns l.work)) (Some l.found.model) l.self;
}
