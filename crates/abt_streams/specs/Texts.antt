-- Which text says which lives: `life S X Y` for stream S, which begins by eventual X and ends by Y.
use Rattle.std.specs.Prelude.{ℕ, suc, ◌≡◌, ◌≢◌, ◌==◌, ◌&&◌, ◌⊎◌, if◌then◌else◌, All, Bool, true, false, List, [], ◌∷◌, ◌++◌, codes, decimal, flat_map, length, map, ⊤}
use Rattle.std.specs.List.{slice_split}
use Rattle.std.specs.Str.{is_utf8}
use Rattle.abt_machine.specs.Faults.{is_skipped}
use Rattle.abt_machine.specs.Spelling.{words_of}
use Rattle.abt_machine.specs.declared.workload.Parts.{Parts}
use Rattle.abt_machine.specs.Words.{Text, ended, line_of, text_of}
use Rattle.abt_report.specs.Journals.{IsShort}
use Rattle.abt_streams.specs.declared.life.Life.{Life}
use Rattle.abt_report.specs.declared.text_fault.TextFault.{TextFault}
use Rattle.abt_report.specs.declared.text_fault.TextFault.TheVariants as cause
use Rattle.abt_streams.specs.Lives.{AreLives, MayFollow}

abbrev pub life_words : Life → List Text
life_words life = codes "life" ∷ decimal life.stream.0 ∷ decimal life.begins.0 ∷ decimal life.ends.0 ∷ []

-- the line of a life, with its line feed
abbrev pub life_line : Life → Text
life_line life = ended (line_of (life_words life))

-- the text of these lives
abbrev pub lives_text : List Life → Text
lives_text lives = text_of (map life_words lives)

-- Skipped lines.

-- the lines of a text: what stands between its line feeds, the last of which may be empty
abbrev pub parts_of : Text → List Text
parts_of = slice_split (λ b. b == 10)

-- a line is skipped as one of a workload's text: it is UTF-8, and has no words or its first word begins with `#`
abbrev pub is_skipped_line : Text → Bool
is_skipped_line line = is_skipped (words_of line) && is_utf8 line

-- a line with its line feed, unless it is skipped
abbrev pub told_by : Text → Text
told_by line = if is_skipped_line line then [] else ended line

-- these lines without those that are skipped; the last has no line feed
abbrev pub told_in : List Text → Text
told_in [] = []
told_in (last ∷ []) = if is_skipped_line last then [] else last
told_in (line ∷ next ∷ lines) = told_by line ++ told_in (next ∷ lines)

-- a text without the lines that are skipped
abbrev pub told : Text → Text
told bytes = told_in (parts_of bytes)

-- Lines and numbers.

-- a byte that is not a line feed
abbrev pub IsNoFeed : ℕ → Type 0
IsNoFeed b = b ≢ 10

-- the text begins with this line, and goes on so; `whole` has the line's line feed, if there is one
pub record IsCut (text line whole rest : Text) : Type 0 where
  pub joined : whole ++ rest ≡ text
  pub plain : All IsNoFeed line
  pub ends : (whole ≡ ended line) ⊎ ((whole ≡ line) × (rest ≡ []))

-- its numbers have 32 bits
pub record IsShortLife (life : Life) : Type 0 where
  pub stream : IsShort life.stream.0
  pub begins : IsShort life.begins.0
  pub ends : IsShort life.ends.0

-- these words spell its numbers
pub record SpellNumbers (life : Life) (stream begins ends : Text) : Type 0 where
  pub stream_is : decimal life.stream.0 ≡ stream
  pub begins_is : decimal life.begins.0 ≡ begins
  pub ends_is : decimal life.ends.0 ≡ ends

-- the text, with its line feed, is not the line of a life that may follow these
abbrev pub IsNoLife : Parts → List Life → Text → Type 0
IsNoLife W before whole = (life : Life) → MayFollow W before life → life_line life ≡ whole → ⊥

-- the lives with that of one more line, if it is not skipped; or the line, which is not skipped, is not that of a life that may follow
abbrev pub Takes : Parts → List Life → Text → Text → Bool → List Life → Type 0
Takes W before line whole true after =
    ((is_skipped_line line ≡ true) × (after ≡ before)) ⊎ ((is_skipped_line line ≡ false) × ((life : Life) × MayFollow W before life × (life_line life ≡ whole) × (after ≡ before ++ life ∷ [])))
Takes W before line whole false after = (is_skipped_line line ≡ false) × IsNoLife W before whole

-- What a text tells.

-- the bytes are the lines of these lives, each with its line feed, among lines that are skipped
abbrev pub IsTextOfLives : List Life → Text → Type 0
IsTextOfLives lives bytes = lives_text lives ≡ told bytes

-- line l is the first that breaks a rule: those above it are skipped or are the lines of lives, and it is neither skipped nor, with a line
-- feed after it, the line of a life that may follow them
pub record IsBadLifeAt (W : Parts) (bytes : Text) (l : ℕ) : Type 0 where
  pub above : List Text
  pub line : Text
  pub below : List Text
  pub parts : parts_of bytes ≡ above ++ line ∷ below
  pub number : suc (length above) ≡ l
  pub before : List Life
  pub lives : AreLives W before
  pub text : lives_text before ≡ flat_map told_by above
  pub told : is_skipped_line line ≡ false
  pub none : (life : Life) → MayFollow W before life → line_of (life_words life) ≡ line → below ≡ []

-- the bytes are the text of no lives
abbrev pub IsNoLivesText : Parts → Text → Type 0
IsNoLivesText W bytes = (lives : List Life) → AreLives W lives → IsTextOfLives lives bytes → ⊥

-- why bytes were not read as lives of streams of W
abbrev pub IsLivesCause : Parts → Text → TextFault → Type 0
IsLivesCause W bytes (cause.Bad line) = IsBadLifeAt W bytes line × IsNoLivesText W bytes
IsLivesCause W bytes cause.Memory = ⊤
