-- Texts as their bytes, made of lines, and lines made of words.
use Rattle.std.specs.Prelude.{ℕ, List, [], ◌∷◌, ◌++◌, map, flat_map}
use Rattle.std.specs.List.{enumerate_from}

-- a text as its bytes
abbrev pub Text : Type 0
Text = List ℕ

-- words, each with a space before it
abbrev pub spaced : List Text → Text
spaced = flat_map (λ word. 32 ∷ word)

-- the line of these words, with a space between each two
abbrev pub line_of : List Text → Text
line_of [] = []
line_of (word ∷ words) = word ++ spaced words

-- a line with its line feed
abbrev pub ended : Text → Text
ended line = line ++ 10 ∷ []

-- the text of these lines, each given as its words
abbrev pub text_of : List (List Text) → Text
text_of = flat_map (λ words. ended (line_of words))

-- f applied to each element and its number, counted from 0
abbrev pub numbered : {A B : Type 0} → (ℕ → A → B) → List A → List B
numbered f xs = map (λ p. f p.0 p.1) (enumerate_from 0 xs)
