-- The first operation by which a workload is not confluent, in order of unit and then of position.
use Rattle.std.specs.Prelude.{ℕ, ◌≡◌, Some}
use Rattle.abt_machine.specs.declared.operations.Op.{Op}
use Rattle.abt_machine.specs.declared.workload.Parts.{Parts}
use Rattle.abt_machine.specs.Workloads.{op_at}
use Rattle.abt_flow.specs.declared.confluence.Seen.{Seen}
use Rattle.abt_flow.specs.declared.confluence.Violation.{Violation}
use Rattle.abt_flow.specs.declared.naming.Naming.TheVariants.{Sets, Creates}
use Rattle.abt_flow.specs.Checks.{HasNamed, IsPlainAt, Prior, Violates}

pub record IsFirstViolation (W : Parts) (v : Violation) : Type 0 where
  -- the unit has the operation there
  pub at : op_at W v.unit.0 v.position ≡ Some v.operation
  pub violates : Violates W v.unit.0 v.position v.operation
  -- and none before it does so
  pub first : (u k : ℕ) (o : Op) → Prior u k v.unit.0 v.position → op_at W u k ≡ Some o → Violates W u k o → ⊥

-- the operations before operation k of unit u are plain, and the tables have what they set and create, each once
pub record Clears (W : Parts) (u k : ℕ) (seen : Seen) : Type 0 where
  pub plain : (v j : ℕ) → Prior v j u k → IsPlainAt W v j
  pub sets : HasNamed W Sets u k seen.set.items
  pub creates : HasNamed W Creates u k seen.created.items
