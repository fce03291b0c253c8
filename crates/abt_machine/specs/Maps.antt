-- Total maps from numbers, changed at some numbers.
use Rattle.std.specs.Prelude.{ℕ, ◌==◌, if◌then◌else◌, List, [], ◌∷◌}

-- f, except x at k
abbrev pub put_at : {A : Type 0} → (ℕ → A) → ℕ → A → ℕ → A
put_at f k x n = if n == k then x else f n

-- f, except the given values at their numbers. Of two values at one number the later one counts
abbrev pub put_all : {A : Type 0} → (ℕ → A) → List (ℕ × A) → ℕ → A
put_all f [] n = f n
put_all f (p ∷ ps) n = put_all (put_at f p.0 p.1) ps n
