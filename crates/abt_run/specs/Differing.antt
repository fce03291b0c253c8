-- Where two texts differ first, and how that is said.
use Rattle.std.specs.Prelude.{◌≡◌, ◌≢◌, ◌==◌, ◌++◌, ℕ, zero, suc, [], ◌∷◌, codes, decimal, flat_map, if◌then◌else◌}
use Rattle.abt_machine.specs.Words.{Text}

-- the first line of a text, with its line feed if it has one; nothing if the text is empty
abbrev pub first_line : Text → Text
first_line [] = []
first_line (b ∷ bs) = b ∷ (if b == 10 then [] else first_line bs)

-- what follows it
abbrev pub after_line : Text → Text
after_line [] = []
after_line (b ∷ bs) = if b == 10 then bs else after_line bs

-- the first l lines of both texts are the same, and the next are not: the one text has `expected` there, and the other `found`
abbrev pub DifferAfter : ℕ → Text → Text → Text → Text → Type 0
DifferAfter zero one other expected found = (expected ≡ first_line one) × (found ≡ first_line other) × (expected ≢ found)
DifferAfter (suc l) one other expected found = (first_line one ≡ first_line other) × DifferAfter l (after_line one) (after_line other) expected found

-- a line feed as `\n`, and any other byte as it is
abbrev pub escaped : ℕ → Text
escaped b = if b == 10 then codes "\\n" else b ∷ []

-- a line in quotes
abbrev pub quoted : Text → Text
quoted line = codes "\"" ++ (flat_map escaped line ++ codes "\"")

-- what is printed of a line that is the first that is wrong: this is expected in its place
abbrev pub expected_text : ℕ → Text → Text → Text
expected_text line expected found = codes "bad " ++ (decimal line ++ (codes "\nexpected " ++ (expected ++ (codes "\nfound " ++ (quoted found ++ codes "\n")))))
