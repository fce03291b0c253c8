-- The bytes of a line, as one pass over it looks at them.
use Rattle.std.specs.Prelude.{ℕ, ◌≡◌, ◌==◌, ◌&&◌, ◌||◌, Bool, true, false, nat_lt}
use Rattle.std.specs.Str.{is_utf8}
use Rattle.abt_machine.specs.Spelling.{has_control, is_separator}
use Rattle.abt_machine.specs.Words.{Text}

-- a separator or a line feed
abbrev pub ends_word : ℕ → Bool
ends_word b = (b == 10) || is_separator b

-- a character of ASCII that is neither a control character nor a blank
abbrev pub is_printable : ℕ → Bool
is_printable b = nat_lt 32 b && nat_lt b 127

-- the line is UTF-8, and has no control character other than a tab
pub record IsClean (line : Text) : Type 0 where
  pub utf8 : is_utf8 line ≡ true
  pub control : has_control line ≡ false
