-- Ends that show the same.
use Rattle.std.specs.Prelude.{◌≡◌, List, Contains}
use Rattle.abt_machine.specs.declared.events.Outcome.{Outcome}
use Rattle.abt_report.specs.Pictures.{units_in_rows}
use Rattle.abt_report.specs.declared.pictures.Row.{Row}
use Rattle.abt_explore.specs.declared.exploration.End.{End}

-- the end has that outcome and shows the units of these rows
abbrev pub IsSameEnd : End → Outcome → List Row → Type 0
IsSameEnd end outcome rows = (end.outcome ≡ outcome) × (units_in_rows end.picture ≡ units_in_rows rows)

-- one of the ends does
abbrev pub ListsSame : List End → Outcome → List Row → Type 0
ListsSame ends outcome rows = (end : End) × Contains ends end × IsSameEnd end outcome rows
