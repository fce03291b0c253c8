-- What the functions return.
use Rattle.std.specs.Prelude.{ℕ, ◌*◌, ◌%◌, ◌^◌, List, Option, Some}

abbrev pub square_of : ℕ → ℕ → ℕ → List ℕ → Option ℕ
square_of function unit acc keys = Some (acc * acc % 2 ^ 64)
