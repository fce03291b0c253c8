-- Which pieces of output a workload can print.
use Rattle.std.specs.Prelude.{◌<◌, length, ⊤}
use Rattle.abt_machine.specs.declared.events.Piece.{Piece}
use Rattle.abt_machine.specs.declared.events.Piece.TheVariants as piece
use Rattle.abt_machine.specs.declared.workload.Parts.{Parts}

-- a word that was said is one of the workload's
abbrev pub IsPieceOf : Parts → Piece → Type 0
IsPieceOf W (piece.Said w) = w < length W.words
IsPieceOf W (piece.Number n) = ⊤
IsPieceOf W (piece.Refused c) = ⊤
