-- Rows of a report that show a number each.
use Rattle.std.specs.Prelude.{ℕ, ◌≡◌, List, [], ◌∷◌}
use Rattle.abt_machine.specs.declared.events.Piece.{Piece}
use Rattle.abt_machine.specs.declared.events.Piece.TheVariants as piece
use Rattle.abt_report.specs.declared.pictures.Row.{Row}

abbrev pub output_of : Row → List Piece
output_of row = row.output

abbrev pub IsNumber : Row → Type 0
IsNumber row = (n : ℕ) × (output_of row ≡ piece.Number n ∷ [])
