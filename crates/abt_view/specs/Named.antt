-- The operations that events name, as the text of their workload has them, and as an svg has that.
use Rattle.std.specs.Prelude.{ℕ, ◌==◌, ◌&&◌, nat_le, Bool, if◌then◌else◌, [], ◌∷◌, ◌++◌, codes, decimal, Option, Some, None, option_map}
use Rattle.abt_machine.specs.declared.events.Piece.{Piece}
use Rattle.abt_machine.specs.declared.events.Piece.TheVariants as piece
use Rattle.abt_machine.specs.declared.events.What.{What}
use Rattle.abt_machine.specs.declared.events.What.TheVariants as what
use Rattle.abt_machine.specs.declared.operations.Op.{Op}
use Rattle.abt_machine.specs.declared.operations.Op.TheVariants as op
use Rattle.abt_machine.specs.declared.workload.Parts.{Parts}
use Rattle.abt_machine.specs.Canonical.{op_words, word_of}
use Rattle.abt_machine.specs.Texts.{event_words}
use Rattle.abt_machine.specs.Words.{Text, ended, line_of}
use Rattle.abt_machine.specs.Workloads.{op_at}
use Rattle.abt_view.specs.declared.notes.Note.{Note}

-- the operation that an event names, if the workload has it
abbrev pub op_named : Parts → What → Option Op
op_named W (what.Miss p) = None
op_named W (what.Take p u) = None
op_named W (what.Look u) = None
op_named W (what.Step u k c) = op_at W u.0 k
op_named W (what.Call u k n) = op_at W u.0 k
op_named W (what.Put u p) = None
op_named W (what.End u c) = None
op_named W (what.Enter u) = None
op_named W (what.Leave u) = None

-- that of an event, if there is a workload that has it
abbrev pub op_of : Option Parts → What → Option Op
op_of None w = None
op_of (Some W) w = op_named W w

-- an operation as its line in the workload's text
abbrev pub op_text : Parts → Op → Text
op_text W o = line_of (op_words W o)

-- that of the operation of an event, if there is a workload that has it
abbrev pub operation_of : Option Parts → What → Option Text
operation_of None what = None
operation_of (Some W) what = option_map (op_text W) (op_named W what)

-- what an operation put out, if that is known: a say its word, and a print a number
abbrev pub output_at : Parts → Op → Option Piece → Option Text
output_at W (op.Say w) (Some x) = Some (word_of W w)
output_at W op.Print (Some (piece.Number n)) = Some (decimal n)
output_at W o x = None

abbrev pub output_by : Parts → Option Op → Option Piece → Option Text
output_by W None x = None
output_by W (Some o) x = output_at W o x

-- what the operation of an event put out, if there is a workload that has it and that is known
abbrev pub output_of : Option Parts → Note → Option Text
output_of None n = None
output_of (Some W) n = output_by W (op_named W n.event.what) n.piece

-- an operation with what it put out, if that is known
abbrev pub output_after : Text → Option Text → Text
output_after operation None = operation
output_after operation (Some output) = operation ++ (codes ": " ++ output)

-- the operation of an event with what it put out, if there is a workload that has it
abbrev pub shown_of : Option Parts → Note → Option Text
shown_of names n = option_map (λ operation. output_after operation (output_of names n)) (operation_of names n.event.what)

-- In an svg.

-- a byte of a text in an svg
abbrev pub xml_byte : ℕ → Text
xml_byte b =
    if b == 38 then codes "&amp;"
    else if b == 60 then codes "&lt;"
    else if b == 62 then codes "&gt;"
    else if b == 34 then codes "&quot;"
    else if b == 39 then codes "&#39;"
    else b ∷ []

-- the bytes of U+FFFE or U+FFFF, which XML does not have
abbrev pub is_no_character : ℕ → ℕ → ℕ → Bool
is_no_character a b c = a == 239 && b == 191 && nat_le 190 c

-- a byte after two others; U+FFFD, the replacement character, takes the place of what XML does not have
abbrev pub xml_byte_after : ℕ → ℕ → ℕ → Text
xml_byte_after a b c = if is_no_character a b c then 189 ∷ [] else xml_byte c

-- a text after two bytes
abbrev pub xml_after : ℕ → ℕ → Text → Text
xml_after a b [] = []
xml_after a b (c ∷ text) = xml_byte_after a b c ++ xml_after b c text

abbrev pub xml_text : Text → Text
xml_text text = xml_after 0 0 text

-- the operation after two spaces
abbrev pub after_line : Option Text → Text
after_line None = []
after_line (Some operation) = codes "  " ++ xml_text operation

-- the line of an event, with its operation and what that put out
abbrev pub named_line : Option Parts → Note → Text
named_line names n = ended (line_of (event_words n.event) ++ after_line (shown_of names n))
