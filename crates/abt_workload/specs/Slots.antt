-- What the reader's table and its numbers are in the grammar.
use Rattle.std.specs.Prelude.{ℕ, ◌≡◌, ◌≤◌, ◌-◌, ◌&&◌, if◌then◌else◌, Bool, true, false, List, [], ◌∷◌, codes, drop, length, take, Option, Some, None}
use Rattle.std.specs.List.{filter}
use Rattle.abt_machine.specs.declared.grammar.Form.{Form}
use Rattle.abt_machine.specs.declared.grammar.Form.TheVariants as form
use Rattle.abt_machine.specs.declared.grammar.Format.{Format}
use Rattle.abt_machine.specs.declared.grammar.Format.TheVariants as format
use Rattle.abt_machine.specs.declared.grammar.Number.{Number}
use Rattle.abt_machine.specs.declared.grammar.Number.TheVariants as number
use Rattle.abt_machine.specs.Forms as grammar
use Rattle.abt_machine.specs.Spelling.{is_number, value_of}
use Rattle.abt_machine.specs.Words.{Text}
use Rattle.abt_workload.specs.declared.forms.Head.{Head}
use Rattle.abt_workload.specs.declared.forms.Slot.{Slot}
use Rattle.abt_workload.specs.declared.forms.Slot.TheVariants as slot

abbrev pub slot_of : Slot → grammar.Slot
slot_of (slot.Fixed text) = grammar.Fixed text.now
slot_of slot.KindWord = grammar.KindWord
slot_of slot.CombineWord = grammar.CombineWord
slot_of slot.AnyWord = grammar.AnyWord
slot_of (slot.Numeral n) = grammar.Numeral n
slot_of slot.PoolList = grammar.PoolList

-- a `repeat` line's places, by those of its operation
abbrev pub repeat_slots : List grammar.Slot → List grammar.Slot
repeat_slots places = grammar.Fixed (codes "repeat") ∷ grammar.Numeral number.Times ∷ places

-- the places of a line of a form, of a `repeat` line those of its operation
abbrev pub own_slots : Form → List grammar.Slot
own_slots (form.Repeat o) = grammar.op_slots o
own_slots f = grammar.slots f

-- a line begins with a word of its form
abbrev pub is_headed : List grammar.Slot → Bool
is_headed (grammar.Fixed text ∷ places) = true
is_headed places = false

-- the forms of the lines that begin with this word
abbrev pub forms_of : Text → List Form
forms_of word = filter (λ f. grammar.begins_with (grammar.slots f) (word ∷ [])) grammar.forms

-- a line that begins with the word of a form and goes on with these has the form, in a text of this format
abbrev pub has_rest : Format → List Text → Form → Bool
has_rest F rest f = grammar.is_in F f && grammar.fits (drop 1 (grammar.slots f)) rest

-- the forms of the lines that begin with this word stand at this place of all forms
pub record IsHead (head : Head) : Type 0 where
  pub ordered : head.from ≤ head.to
  pub within : head.to ≤ length grammar.forms
  pub group : take (head.to - head.from) (drop head.from grammar.forms) ≡ forms_of head.word.now

-- the number that a word is, if it is one
abbrev pub number_in : Text → Option ℕ
number_in word = if is_number word then Some (value_of word) else None

-- the word in a place, if it is a number's place
abbrev pub numeral_in : grammar.Slot → Text → List (Number × Text)
numeral_in (grammar.Numeral n) word = (n, word) ∷ []
numeral_in s word = []

-- the digit that a version line has at its end
abbrev pub digit_of : Format → ℕ
digit_of format.One = 49
digit_of format.Two = 50
digit_of format.Three = 51
