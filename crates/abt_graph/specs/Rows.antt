-- Units that put out a number each.
use Rattle.std.specs.Prelude.{ℕ, List, [], ◌∷◌, map}
use Rattle.abt_machine.specs.declared.events.Piece.{Piece}
use Rattle.abt_machine.specs.declared.events.Piece.TheVariants as piece

-- units that put out these numbers
abbrev pub number_rows : List ℕ → List (List Piece)
number_rows = map (λ n. piece.Number n ∷ [])
