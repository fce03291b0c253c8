-- The units that a stream has after a step.
use Rattle.std.specs.Prelude.{List, [], ◌∷◌, ◌++◌, Option, Some, None}
use Rattle.abt_machine.specs.Values.{Owned}
use Rattle.abt_machine.specs.Plans.{Effect}

-- the unit, if there is one
abbrev pub unit_in : Option Owned → List Owned
unit_in None = []
unit_in (Some o) = o ∷ []

-- what an effect leaves in the hand and in Next, and puts on the tray
abbrev pub units_left : Effect → List Owned
units_left e = unit_in e.hand ++ unit_in e.next ++ e.wakes
