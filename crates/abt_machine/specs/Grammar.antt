-- Which texts are workload texts, which workload each is, and why every other text is refused.
use Rattle.std.specs.Prelude.{ℕ, zero, suc, ◌≡◌, ◌<◌, ◌==◌, ◌&&◌, if◌then◌else◌, Bool, true, false, not, List, [], ◌∷◌, find, fold, length, nat_lt, take, slice_index_or, Option, Some, None}
use Rattle.abt_machine.specs.declared.grammar.Form.{Form}
use Rattle.abt_machine.specs.declared.grammar.Form.TheVariants as form
use Rattle.abt_machine.specs.declared.grammar.Format.{Format}
use Rattle.abt_machine.specs.declared.grammar.Format.TheVariants as format
use Rattle.abt_machine.specs.declared.program.Fault.{Fault}
use Rattle.abt_machine.specs.declared.program.Fault.TheVariants as fault
use Rattle.abt_machine.specs.declared.workload.Parts.{Parts}
use Rattle.abt_machine.specs.Declaring.{Above, declared_with, nothing, parts_of}
use Rattle.abt_machine.specs.Faults.{faults, is_skipped, line_fault, line_has, values_of}
use Rattle.abt_machine.specs.Forms.{fits, form_of, section, slots}
use Rattle.abt_machine.specs.Limits.{text_limit}
use Rattle.abt_machine.specs.Spelling.{lines_of, words_of}
use Rattle.abt_machine.specs.Words.{Text}

-- What lines declare.

-- a line of a form without a fault
abbrev pub and_form : Above → List Text → Option Form → Above
and_form a words None = a
and_form a words (Some f) = record (declared_with a f words (values_of f words)) { section = section f }

-- a line with a fault declares nothing
abbrev pub and_words : Above → List Text → Option Fault → Above
and_words a words None = and_form a words (form_of a.format words)
and_words a words (Some f) = a

-- what is declared with one more line; a line that is skipped declares nothing
abbrev pub and_line : Above → Text → Above
and_line a line = if is_skipped (words_of line) then a else record (and_words a (words_of line) (line_fault a line)) { begun = true }

-- what these lines declare
abbrev pub declared_by : List Text → Above
declared_by = fold and_line nothing

-- The faults of a text.

-- the format of a text whose first line that is not skipped has these words
abbrev pub format_in : List Text → Format
format_in words = if fits (slots (form.Version format.Three)) words then format.Three else (if fits (slots (form.Version format.Two)) words then format.Two else format.One)

-- the format of a text of these lines
abbrev pub format_of : List Text → Format
format_of [] = format.One
format_of (line ∷ lines) = if is_skipped (words_of line) then format_of lines else format_in (words_of line)

-- a text has at most as many bytes as its format allows
abbrev pub is_too_long : Text → Fault → Bool
is_too_long text fault.Limit = nat_lt (text_limit (format_of (lines_of text))) (length text)
is_too_long text f = false

-- the line after the last has a fault if there was no `end`
abbrev pub ends_early : Above → Fault → Bool
ends_early a fault.NoEnd = not (a.section == 10)
ends_early a f = false

-- the line at this place, counted from 0, has this fault, by the lines above it
abbrev pub has_at : List Text → ℕ → Fault → Bool
has_at lines i f =
    if nat_lt i (length lines) then line_has (declared_by (take i lines)) (slice_index_or lines i []) f
    else ((i == length lines) && ends_early (declared_by lines) f)

-- the line of this number, counted from 1, has this fault; 0 means the text's length
abbrev pub has_fault : Text → ℕ → Fault → Bool
has_fault text zero f = is_too_long text f
has_fault text (suc i) f = has_at (lines_of text) i f

-- the first fault of a line, in the order in which they are looked for
abbrev pub fault_at : Text → ℕ → Option Fault
fault_at text line = find (has_fault text line) faults

-- no line of the text has a fault, and these are the parts that its lines declare
pub record Reads (text : Text) (W : Parts) : Type 0 where
  pub faultless : (line : ℕ) → fault_at text line ≡ None
  pub parts : W ≡ parts_of (declared_by (lines_of text))

-- this is the least line of the text that has a fault, and its first fault
pub record Refuses (text : Text) (line : ℕ) (f : Fault) : Type 0 where
  pub least : (above : ℕ) → above < line → fault_at text above ≡ None
  pub first : fault_at text line ≡ Some f
