-- What is stored, as a model is given it.
use Rattle.std.specs.Prelude.{ℕ, List, Option}
use Rattle.abt_machine.specs.declared.operations.OrderShape.{OrderShape}
use Rattle.abt_machine.specs.Stored.{Stored}

-- what is stored: orders of these shapes, and functions that return this
abbrev pub stored_with : List OrderShape → (ℕ → ℕ → ℕ → List ℕ → Option ℕ) → Stored
stored_with shapes returns = record { orders = shapes; returns = returns }
