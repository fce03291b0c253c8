use Rattle.std.proofs.Common.{◌≡◌, ◌==◌, ◌≤◌, ℕ, drop, false, length}
use Rattle.std.specs.List.{list_any}
use Rattle.std.specs.Ordering.{nat_cmp}
use Rattle.std.specs.BTreeSet.{contains}
use Rattle.abt_machine.specs.Faults.{has_repeated, values}
use Rattle.abt_workload.proofs.numbers.has_repeated.Given as goal

abbrev pub invariant-loop-left : goal.invariant-loop-left
invariant-loop-left l = record {
  within : l.left ≤ length l.numbers;
  seen : (q : ℕ) → contains nat_cmp l.seen q ≡ list_any (λ m. m == q) (drop l.left (values l.numbers));
  single : has_repeated (drop l.left (values l.numbers)) ≡ false;
}

abbrev pub decreases-loop-left : goal.decreases-loop-left
decreases-loop-left l = l.left
