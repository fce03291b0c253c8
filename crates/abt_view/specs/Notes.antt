-- The events of a journal, each with what it put out.
use Rattle.std.specs.Prelude.{List, [], ◌∷◌, Option, None}
use Rattle.abt_machine.specs.declared.events.Event.{Event}
use Rattle.abt_machine.specs.declared.events.Piece.{Piece}
use Rattle.abt_view.specs.declared.notes.Note.{Note}

abbrev pub note : Event → Option Piece → Note
note e p = record { event = e; piece = p }

-- the events, with what the first of them put out; of those behind it is not known
abbrev pub noted : List Event → List (Option Piece) → List Note
noted [] pieces = []
noted (e ∷ es) [] = note e None ∷ noted es []
noted (e ∷ es) (p ∷ pieces) = note e p ∷ noted es pieces
