-- Texts that list numbers, one a line.
use Rattle.std.specs.Prelude.{◌≡◌, ℕ, ◌+◌, true, false, List, ◌∷◌, ◌++◌, decimal, flat_map, length, map}
use Rattle.std.specs.List.{list_all}
use Rattle.abt_machine.specs.Spelling.{is_number, lines_of, value_of}
use Rattle.abt_machine.specs.Words.{Text, ended}

-- each line of the text is a number, and these are they
pub record Lists (text : Text) (numbers : List ℕ) : Type 0 where
  pub all : list_all is_number (lines_of text) ≡ true
  pub are : numbers ≡ map value_of (lines_of text)

-- the line of this number, counted from 1, is the first that is no number
pub record IsNoNumberAt (text : Text) (line : ℕ) : Type 0 where
  pub before : List Text
  pub word : Text
  pub after : List Text
  pub lines : lines_of text ≡ before ++ word ∷ after
  pub numbers : list_all is_number before ≡ true
  pub wrong : is_number word ≡ false
  pub place : line ≡ length before + 1

-- the lines of numbers
abbrev pub number_lines : List ℕ → Text
number_lines = flat_map (λ n. ended (decimal n))
