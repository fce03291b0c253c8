-- What contracts see of a picture.
use Rattle.std.specs.Prelude.{◌≡◌, List, map, All}
use Rattle.abt_machine.specs.declared.events.Event.{Event}
use Rattle.abt_machine.specs.declared.workload.Parts.{Parts}
use Rattle.abt_machine.specs.Pieces.{IsPieceOf}
use Rattle.abt_machine.specs.Runs.{last_state}
use Rattle.abt_machine.specs.Texts.{ShownUnit, shown_units}
use Rattle.abt_report.specs.declared.pictures.Row.{Row}

-- a row as a report shows it
abbrev pub unit_in_row : Row → ShownUnit
unit_in_row row = record { shown = row.shown; output = row.output }

-- the units of a picture, as a report shows them
abbrev pub units_in_rows : List Row → List ShownUnit
units_in_rows = map unit_in_row

-- the words that the unit said are the workload's
abbrev pub SaysWordsOf : Parts → Row → Type 0
SaysWordsOf W row = All (IsPieceOf W) row.output

-- the picture of the state in which the journal ends
pub record IsPictureOf (W : Parts) (J : List Event) (picture : List Row) : Type 0 where
  -- it shows each unit as the last state has it
  pub shown : shown_units W (last_state W J) ≡ units_in_rows picture
  -- its words are the workload's
  pub words : All (SaysWordsOf W) picture
