-- What contracts see of an owned unit. The room in its output stands beside the unit and not in it: all that objects and
-- streams hold, give and take is `Owned`, so two units that differ in that room alone are the same.
use Rattle.std.specs.Prelude.{ℕ, ◌≡◌, List, [], ◌∷◌, Option, None, Some, Box}
use Rattle.std.specs.declared.alloc.Global.{Global}
use Rattle.abt_machine.specs.Values.{Owned}

-- a unit, and for how many more pieces its output has room
pub record BodyValue : Type 0 where
  pub owned : Owned
  pub spare : ℕ

-- a unit with that room, and the units that are linked behind it, in order
pub record UnitValue : Type 0 where
  pub owned : Owned
  pub spare : ℕ
  pub behind : List Owned

-- no unit is linked behind it
abbrev pub IsFree : UnitValue → Type 0
IsFree unit = unit.behind ≡ []

-- the units from a link on, in order
abbrev pub units_in : Option (Box UnitValue Global) → List Owned
units_in None = []
units_in (Some unit) = unit.value.owned ∷ unit.value.behind
