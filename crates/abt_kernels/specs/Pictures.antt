-- The format PGM: a head, and a byte for each pixel, line by line.
use Rattle.std.specs.Prelude.{ℕ, ◌++◌, List, codes, decimal, map, min}
use Rattle.std.specs.List.{concat}

-- the letters P5, the width and the height, and the value of white
abbrev pub pgm_head : ℕ → ℕ → List ℕ
pgm_head width height = codes "P5\n" ++ (decimal width ++ (codes " " ++ (decimal height ++ codes "\n255\n")))

-- the picture of these rows of pixels; a greater word is white too
abbrev pub pgm_text : ℕ → ℕ → List (List ℕ) → List ℕ
pgm_text width height rows = pgm_head width height ++ map (min 255) (concat rows)
