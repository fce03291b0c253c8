use Rattle.std.proofs.Common.{◌≡◌, ℕ, ◌<◌, Some}
use Rattle.std.specs.List.{slice_get}
use Rattle.abt_machine.specs.declared.operations.Op.{Op}
use Rattle.abt_explore.specs.Named.{IsUnmarked, unit_named}
use Rattle.abt_explore.proofs.named.mark_unit.Given as goal

abbrev pub invariant-loop-op : goal.invariant-loop-op
invariant-loop-op l = record {
  old : (v : ℕ) → IsUnmarked l.named v → IsUnmarked l.initial.named v;
  new : (v k : ℕ) (o : Op) → k < l.op-index → IsUnmarked l.named v → slice_get l.op-items k ≡ Some o → unit_named o ≡ Some v → ⊥;
}
