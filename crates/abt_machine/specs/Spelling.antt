-- Lines, words and numbers of a text.
use Rattle.std.specs.Prelude.{◌≡◌, ◌≤◌, ℕ, ◌+◌, ◌-◌, ◌*◌, ◌^◌, ◌==◌, ◌&&◌, ◌||◌, Bool, not, List, [], ◌∷◌, filter, length, nat_lt, if◌then◌else◌}
use Rattle.std.specs.List.{list_any, onto_first, slice_split}
use Rattle.std.specs.Str.{all_ascii_digits}
use Rattle.std.specs.Str.Parse.{IsNumeral, digits_value}
use Rattle.abt_machine.specs.Words.{Text}

-- what a byte makes of the lines that follow it: a line feed ends a line, any other byte begins the first of them
abbrev pub with_byte : ℕ → List Text → List Text
with_byte b lines = if b == 10 then [] ∷ lines else onto_first b lines

-- The lines of a text: each ends with a line feed, and bytes after the last line feed are a last line.
unfoldable pub lines_of : Text → List Text
lines_of [] = []
lines_of (b ∷ bs) = with_byte b (lines_of bs)

-- a space or a tab
abbrev pub is_separator : ℕ → Bool
is_separator b = (b == 32) || (b == 9)

abbrev pub is_empty : Text → Bool
is_empty word = length word == 0

-- the words of a line, which stand between its separators
abbrev pub words_of : Text → List Text
words_of line = filter (λ word. not (is_empty word)) (slice_split is_separator line)

-- a control character other than a tab
abbrev pub is_control : ℕ → Bool
is_control b = (nat_lt b 32 && not (b == 9)) || (b == 127)

abbrev pub has_control : Text → Bool
has_control = list_any is_control

-- the number that these digits make after n
abbrev pub value_from : ℕ → Text → ℕ
value_from n [] = n
value_from n (d ∷ ds) = value_from (n * 10 + (d - 48)) ds

-- the number that the digits of a word make
abbrev pub value_of : Text → ℕ
value_of word = value_from 0 word

-- a number is one or more digits, perhaps with leading zeros, of a value below 2 ^ 64
abbrev pub is_number : Text → Bool
is_number word = not (is_empty word) && all_ascii_digits word && nat_lt (value_of word) (2 ^ 64)

-- one or more ASCII digits of a value from 1 to `most`; leading zeros are allowed
abbrev pub SaysNumber : ℕ → Text → ℕ → Type 0
SaysNumber most digits n = IsNumeral 10 digits × (n ≡ digits_value 10 digits) × (1 ≤ n) × (n ≤ most)
