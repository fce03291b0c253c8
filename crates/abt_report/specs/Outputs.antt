-- The outputs of units as a text.
use Rattle.std.specs.Prelude.{ℕ, ◌++◌, ◌∷◌, [], List, codes, decimal, flat_map, map}
use Rattle.abt_machine.specs.declared.events.Piece.{Piece}
use Rattle.abt_machine.specs.declared.workload.Parts.{Parts}
use Rattle.abt_machine.specs.Texts.{piece_word}
use Rattle.abt_machine.specs.Words.{Text, ended, line_of, numbered, spaced}

-- the line of unit u, which put out these pieces
abbrev pub output_line : Parts → ℕ → List Piece → Text
output_line W u output = line_of (codes "unit" ∷ decimal u ∷ []) ++ codes ":" ++ spaced (map (piece_word W) output)

-- a line for each unit
abbrev pub outputs_text : Parts → List (List Piece) → Text
outputs_text W outputs = flat_map ended (numbered (output_line W) outputs)
