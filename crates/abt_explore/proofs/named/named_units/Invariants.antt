use Rattle.std.proofs.Common.{◌≡◌, ℕ, ◌<◌, Some}
use Rattle.abt_machine.specs.declared.operations.Op.{Op}
use Rattle.abt_machine.specs.Workloads.{op_at}
use Rattle.abt_explore.specs.Named.{IsUnmarked, unit_named}
use Rattle.abt_explore.proofs.named.named_units.Given as goal

abbrev pub invariant-loop-u : goal.invariant-loop-u
invariant-loop-u l = (u : ℕ) → u < l.u → (v k : ℕ) (o : Op) → IsUnmarked l.named.items v → op_at l.w u k ≡ Some o → unit_named o ≡ Some v → ⊥
