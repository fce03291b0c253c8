use Rattle.std.proofs.Common.{◌≡◌, ℕ, ◌<◌, Some}
use Rattle.std.specs.List.{slice_get}
use Rattle.abt_explore.specs.Same.{IsSameEnd}
use Rattle.abt_explore.specs.declared.exploration.End.{End}
use Rattle.abt_explore.proofs.same.lists.Given as goal

abbrev pub invariant-loop-noted : goal.invariant-loop-noted
invariant-loop-noted l = (k : ℕ) (end : End) → k < l.noted-index → slice_get l.ends k ≡ Some end → IsSameEnd end l.outcome l.rows → ⊥
