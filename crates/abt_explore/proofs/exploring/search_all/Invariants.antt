use Rattle.std.proofs.Common.{◌≡◌, ◌+◌, None, length}
use Rattle.abt_model.specs.Stored.{stored_with}
use Rattle.abt_explore.specs.Searches.{IsSearching, SeesStart}
use Rattle.abt_explore.proofs.exploring.search_all.Given as goal

abbrev pub invariant-loop-states : goal.invariant-loop-states
invariant-loop-states g l = record {
  begins : SeesStart l.w l.search;
  count : length l.search.paths ≡ l.states + length l.search.waiting.items;
  searching : IsSearching l.w (stored_with l.z (g.P.Work.returns l.work)) None l.search;
}
