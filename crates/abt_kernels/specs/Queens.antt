-- Queens on a board, none of which attacks another.
use Rattle.std.specs.Prelude.{ℕ, zero, suc, ◌+◌, ◌==◌, ◌%◌, ◌^◌, ◌||◌, if◌then◌else◌, Bool, false, List, [], ◌∷◌, Option, Some}
use Rattle.std.specs.List.{range_with_len}
use Rattle.std.specs.Prelude.{sum_by}
use Rattle.abt_graph.specs.Shapes.{word_sum}
use Rattle.abt_kernels.specs.declared.queens.Placed.{Placed, Nobody, Queen'}

-- the columns of queens that are placed, the nearest first
abbrev pub columns : Placed → List ℕ
columns Nobody = []
columns (Queen' column p before) = column ∷ columns before

-- a queen in this column attacks one of the queens in the rows before, the nearest of which is d rows away: it stands in the same column, or as many columns away as rows
abbrev pub attacks : ℕ → ℕ → List ℕ → Bool
attacks column d [] = false
attacks column d (c ∷ cs) = (column == c) || ((column == c + d) || ((column + d == c) || attacks column (suc d) cs))

-- in how many ways k further rows of a board of n columns can each get a queen, if these queens stand in the rows before, the nearest first
abbrev pub completions : ℕ → ℕ → List ℕ → ℕ
completions n zero placed = 1
completions n (suc k) placed = sum_by (λ c. if attacks c 1 placed then 0 else completions n k (c ∷ placed)) (range_with_len 0 n)

-- in how many ways n queens can stand on a board of n rows and columns, so that none attacks another
abbrev pub queens : ℕ → ℕ
queens n = completions n n []

-- in how many ways the others can be placed if the first one stands in this column, as a word
abbrev pub completions_of : ℕ → ℕ → ℕ
completions_of zero column = 1
completions_of (suc k) column = completions (suc k) k (column ∷ []) % 2 ^ 64

-- what functions return: function 0 in how many ways the board can be completed if the first queen stands in the column of the unit's number, and any other the sum of the keys
abbrev pub completions_or_sum : ℕ → ℕ → ℕ → ℕ → List ℕ → Option ℕ
completions_or_sum n zero unit acc keys = Some (completions_of n unit)
completions_or_sum n (suc f) unit acc keys = Some (word_sum keys)
