-- What contracts see of a chain.
use Rattle.std.specs.Prelude.{ℕ, List}
use Rattle.abt_machine.specs.Values.{Owned}

-- its units in order, and how many links are still to be walked before its units can all be taken from the front
pub record ChainValue : Type 0 where
  pub units : List Owned
  pub owed : ℕ
