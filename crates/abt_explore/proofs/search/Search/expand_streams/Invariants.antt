use Rattle.std.proofs.Common.{ℕ, ◌<◌, Some}
use Rattle.abt_model.specs.Stored.{stored_with}
use Rattle.abt_explore.specs.Searches.{Grows, IsMet, IsSearching, SeesNext}
use Rattle.abt_explore.proofs.search.Search.expand_streams.Given as goal

abbrev pub invariant-loop-s : goal.invariant-loop-s
invariant-loop-s g l = record {
  grows : Grows l.initial.self l.self;
  met : IsMet l.w (stored_with l.z (g.P.Work.returns l.work)) l.self.paths l.found;
  searching : IsSearching l.w (stored_with l.z (g.P.Work.returns l.work)) (Some l.found.model) l.self;
  next : (s : ℕ) → s < l.s → SeesNext l.w (stored_with l.z (g.P.Work.returns l.work)) l.self l.found.model s;
}
