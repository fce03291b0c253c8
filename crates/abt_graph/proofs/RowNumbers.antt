-- Rows that are a number each.
use Rattle.std.proofs.Common.{◌≡◌, ℕ, List, [], ◌∷◌, map, refl, ap}
use Rattle.abt_machine.specs.declared.events.Piece.{Piece}
use Rattle.abt_machine.specs.declared.events.Piece.TheVariants as piece
use Rattle.abt_graph.specs.Rows.{number_rows}

-- the number that a row begins with
abbrev pub number_in : List Piece → ℕ
number_in (piece.Number n ∷ pieces) = n
number_in pieces = 0

pub numbers-back : (numbers : List ℕ) → map number_in (number_rows numbers) ≡ numbers
numbers-back [] = refl
numbers-back (n ∷ numbers) = ap (λ ns. n ∷ ns) (numbers-back numbers)
