use Rattle.std.proofs.Common.{◌≡◌, ℕ, ◌<◌, Some}
use Rattle.std.specs.List.{slice_get}
use Rattle.abt_machine.specs.declared.events.What.{What}
use Rattle.abt_model.specs.Stored.{stored_with}
use Rattle.abt_explore.specs.Searches.{Grows, IsMet, IsSearching, SeesAfter}
use Rattle.abt_explore.proofs.search.Search.follow_all.Given as goal

abbrev pub invariant-loop-hint : goal.invariant-loop-hint
invariant-loop-hint g l = record {
  grows : Grows l.initial.self l.self;
  met : IsMet l.w (stored_with l.z (g.P.Work.returns l.work)) l.self.paths l.found;
  searching : IsSearching l.w (stored_with l.z (g.P.Work.returns l.work)) (Some l.found.model) l.self;
  sees : (k : ℕ) (hint : What) → k < l.hint-index → slice_get l.hints k ≡ Some hint → SeesAfter l.w (stored_with l.z (g.P.Work.returns l.work)) l.self l.found.model l.s.0 hint;
}
