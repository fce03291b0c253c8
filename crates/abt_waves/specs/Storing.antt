-- What is stored in a run.
use Rattle.std.specs.Prelude.{ℕ, List, Option}
use Rattle.abt_machine.specs.declared.operations.OrderShape.{OrderShape}
use Rattle.abt_machine.specs.Stored.{Stored}

-- orders of these shapes, and functions that return this
abbrev pub stored_by : List OrderShape → (ℕ → ℕ → ℕ → List ℕ → Option ℕ) → Stored
stored_by shapes returns = record { orders = shapes; returns = returns }
