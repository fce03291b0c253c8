-- What may be said further of a faulty line.
use Rattle.std.specs.Prelude.{◌≡◌, ℕ, ◌==◌, ◌-◌, ◌++◌, if◌then◌else◌, Bool, Option, Some, None, List, [], ◌∷◌, slice_index_or, bytes_eq, codes}
use Rattle.std.specs.List.{ends_with, starts_with}
use Rattle.abt_machine.specs.declared.grammar.Form.{Form}
use Rattle.abt_machine.specs.declared.grammar.Format.{Format}
use Rattle.abt_machine.specs.declared.program.Fault.{Fault}
use Rattle.abt_machine.specs.declared.program.Fault.TheVariants as fault
use Rattle.abt_machine.specs.Forms.{Fixed, Slot, form_of, slots}
use Rattle.abt_machine.specs.Grammar.{Refuses, format_of}
use Rattle.abt_machine.specs.Spelling.{has_control, lines_of, words_of}
use Rattle.abt_machine.specs.Words.{Text}

-- Of any text.

-- the line of this number, counted from 1, or nothing if there is none of that number
abbrev pub nth_line : List Text → ℕ → Text
nth_line lines line = if line == 0 then [] else slice_index_or lines (line - 1) []

-- the text begins with a byte order mark
abbrev pub has_mark : Text → Bool
has_mark text = starts_with (λ (a b : ℕ). a == b) text (239 ∷ 187 ∷ 191 ∷ [])

-- the line's last byte is a carriage return
abbrev pub has_return : Text → Bool
has_return line = ends_with (λ (a b : ℕ). a == b) line (13 ∷ [])

-- what may be said further of the line of this number; line 0 is the text's length
abbrev pub line_hint : Text → ℕ → Text
line_hint text line =
    if line == 0 then [] else
    if has_mark text then codes "the text begins with a byte order mark\n" else
    if has_return (nth_line (lines_of text) line) then codes "the line ends with a carriage return\n" else []

-- Of a workload text: the forms of its lines, by their first word.

-- lines that declare
abbrev pub head_rows : List (Text × Text)
head_rows =
    (codes "abt", codes "abt 1, abt 2 or abt 3") ∷
    (codes "streams", codes "streams N") ∷
    (codes "keys", codes "keys N") ∷
    (codes "pool", codes "pool P KIND ACCESS") ∷
    (codes "sched", codes "sched G RULE POOLS") ∷
    (codes "stream", codes "stream S main G") ∷
    (codes "object", codes "object X THING") ∷
    (codes "units", codes "units N") ∷
    (codes "unit", codes "unit U BODY START") ∷
    (codes "many", codes "many U C BODY START") ∷
    (codes "repeat", codes "repeat N OP") ∷
    (codes "end", codes "end") ∷
    []

-- operations of units on numbers, keys and units
abbrev pub unit_rows : List (Text × Text)
unit_rows =
    (codes "set", codes "set N") ∷
    (codes "add", codes "add N") ∷
    (codes "say", codes "say WORD") ∷
    (codes "print", codes "print") ∷
    (codes "kset", codes "kset K") ∷
    (codes "kget", codes "kget K") ∷
    (codes "calc", codes "calc NAME K") ∷
    (codes "call", codes "call F") ∷
    (codes "yield", codes "yield") ∷
    (codes "yieldto", codes "yieldto V P") ∷
    (codes "suspend", codes "suspend") ∷
    (codes "exit", codes "exit") ∷
    (codes "resume", codes "resume V") ∷
    (codes "create", codes "create V P") ∷
    (codes "join", codes "join V") ∷
    (codes "cancel", codes "cancel V") ∷
    (codes "migrate", codes "migrate V P") ∷
    (codes "migrateto", codes "migrateto V S") ∷
    (codes "migratable", codes "migratable V N") ∷
    (codes "revive", codes "revive V P") ∷
    []

-- operations of units on objects
abbrev pub object_rows : List (Text × Text)
object_rows =
    (codes "lock", codes "lock X") ∷
    (codes "trylock", codes "trylock X") ∷
    (codes "unlock", codes "unlock X") ∷
    (codes "load", codes "load X") ∷
    (codes "store", codes "store X") ∷
    (codes "cwait", codes "cwait X") ∷
    (codes "signal", codes "signal X") ∷
    (codes "broadcast", codes "broadcast X") ∷
    (codes "ewait", codes "ewait X") ∷
    (codes "eset", codes "eset X") ∷
    (codes "ereset", codes "ereset X") ∷
    (codes "etest", codes "etest X") ∷
    (codes "fwait", codes "fwait X") ∷
    (codes "fset", codes "fset X") ∷
    (codes "freset", codes "freset X") ∷
    (codes "ftest", codes "ftest X") ∷
    (codes "bwait", codes "bwait X") ∷
    (codes "rdlock", codes "rdlock X") ∷
    (codes "wrlock", codes "wrlock X") ∷
    (codes "rwunlock", codes "rwunlock X") ∷
    (codes "rwload", codes "rwload X") ∷
    (codes "rwstore", codes "rwstore X") ∷
    []

-- the form that these rows have for the word, or what is said otherwise
abbrev pub form_in : List (Text × Text) → Text → Text → Text
form_in [] word other = other
form_in (row ∷ rows) word other = if bytes_eq word row.0 then codes "form: " ++ (row.1 ++ codes "\n") else form_in rows word other

-- the form of the lines that begin with this word, if there are any
abbrev pub form_line : Text → Text
form_line word = form_in head_rows word (form_in unit_rows word (form_in object_rows word []))

-- the word that lines of these places begin with
abbrev pub head_word : List Slot → Text
head_word (Fixed word ∷ places) = word
head_word places = []

-- what is said of each form names the word that its lines begin with
abbrev pub names_its_word : Form → Bool
names_its_word f = starts_with (λ (a b : ℕ). a == b) (form_line (head_word (slots f))) (codes "form: " ++ head_word (slots f))

-- the form of the lines that begin with the first of these words, if there are any
abbrev pub form_hint : List Text → Text
form_hint [] = []
form_hint (word ∷ words) = form_line word

-- what is said of the shape of a line that has this form, if any: which form it should have; that it has a control character; or that it stands
-- in a wrong place
abbrev pub shape_line : Option Form → Text → Text
shape_line None line = form_hint (words_of line)
shape_line (Some f) line = if has_control line then codes "the line has a control character\n" else codes "a line of this form must not stand here\n"

-- the same of a line in a text of this format
abbrev pub shape_hint : Format → Text → Text
shape_hint F line = shape_line (form_of F (words_of line)) line

-- what may be said of a line with this fault in a text of this format
abbrev pub fault_hint : Fault → Format → Text → Text
fault_hint fault.Shape F line = shape_hint F line
fault_hint f F line = []

-- the first of two texts, unless it is empty
abbrev pub either_text : Text → Text → Text
either_text [] other = other
either_text (b ∷ bs) other = b ∷ bs

-- what may be said further of the line of this number, which has this fault
abbrev pub hint : Text → ℕ → Fault → Text
hint text line f = either_text (line_hint text line) (fault_hint f (format_of (lines_of text)) (nth_line (lines_of text) line))

-- the text is refused at this line with this fault, and this may be said further
abbrev pub RefusesSo : Text → ℕ → Fault → Text → Type 0
RefusesSo text line f said = Refuses text line f × (said ≡ hint text line f)
