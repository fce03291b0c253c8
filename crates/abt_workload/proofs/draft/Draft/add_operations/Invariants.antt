use Rattle.std.proofs.Common.{◌≡◌, ◌≤◌, ◌+◌, length, map}
use Rattle.abt_machine.specs.Declaring.{with_operations}
use Rattle.abt_machine.specs.Faults.{values}
use Rattle.abt_workload.proofs.draft.Draft.add_operations.Given as goal

abbrev pub invariant-loop-left : goal.invariant-loop-left
invariant-loop-left l = record {
  added : with_operations l.left l.op (map (λ w. w.now) l.words) (values l.numbers) l.self ≡ with_operations l.count l.op (map (λ w. w.now) l.words) (values l.numbers) l.fn.self;
  few_words : length l.self.words + length l.self.said + l.left ≤ 1052672;
}

abbrev pub decreases-loop-left : goal.decreases-loop-left
decreases-loop-left l = l.left
