-- What the words after a command's name are, by the options that the command has.
use Rattle.std.specs.Prelude.{◌==◌, ℕ, suc, if◌then◌else◌, Bool, true, false, List, [], ◌∷◌, Option, Some, None, codes, find, option_map}
use Rattle.std.specs.Str.{bytes_eq}
use Rattle.clap.specs.Lexer.{long_of}
use Rattle.abt_machine.specs.Words.{Text}

-- the names of a command's options, and whether each takes a value
abbrev pub Options : Type 0
Options = List (Text × Bool)

-- whether the option of this name takes a value, if there is one
abbrev pub takes_value : Options → Text → Option Bool
takes_value table name = option_map (λ o. o.1) (find (λ o. bytes_eq o.0 name) table)

-- the words that are no options, the values that are given to the option of each name, and how many options there are that the command
-- does not have in this form. An option that takes no value has the empty one each time
pub record Rest : Type 0 where
  pub words : List Text
  pub given : Text → List Text
  pub others : ℕ

abbrev pub only : List Text → Rest
only words = record { words = words; given = λ name. []; others = 0 }

abbrev pub and_word : Text → Rest → Rest
and_word w r = record r { words = w ∷ r.words }

abbrev pub and_option : Text → Text → Rest → Rest
and_option name v r = record r { given = λ n. if bytes_eq name n then v ∷ r.given n else r.given n }

abbrev pub and_other : Rest → Rest
and_other r = record r { others = suc r.others }

-- an option begins with `-` and is not `-` alone
abbrev pub is_option : Text → Bool
is_option [] = false
is_option (c ∷ []) = false
is_option (c ∷ d ∷ cs) = c == 45

-- with the word `--name` or `--name=value`. An option that takes a value and has none in its word has the next word as its value,
-- which is `due` then
abbrev pub with_option : Text → Option Bool → Option Text → (Option Text → Rest) → Rest
with_option name (Some true) (Some v) rest = and_option name v (rest None)
with_option name (Some true) None rest = rest (Some name)
with_option name (Some false) None rest = and_option name [] (rest None)
with_option name _ _ rest = and_other (rest None)

-- `long_of` cuts a word `--name=value` at its first `=`, and finds no name in `-x`
abbrev pub with_named : Options → Option (Text × Option Text) → (Option Text → Rest) → Rest
with_named table None rest = and_other (rest None)
with_named table (Some o) rest = with_option o.0 (takes_value table o.0) o.1 rest

-- the rest that these words are, if the value of an option is due, and if none is. The first `--` ends the options. No option is a
-- value: an option without its value counts with the others
abbrev pub rest_of : Options → Option Text → List Text → Rest
rest_of table (Some name) [] = and_other (only [])
rest_of table (Some name) (v ∷ ws) =
    if is_option v then and_other (rest_of table None ws) else and_option name v (rest_of table None ws)
rest_of table None [] = only []
rest_of table None (w ∷ ws) =
    if bytes_eq w (codes "--") then only ws
    else if is_option w then with_named table (long_of w) (λ due. rest_of table due ws)
    else and_word w (rest_of table None ws)
