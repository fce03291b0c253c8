-- What the function of a node returns.
use Rattle.std.specs.Prelude.{ℕ, ◌*◌, List, Option, Some}

abbrev pub square_of : ℕ → ℕ → ℕ → List ℕ → Option ℕ
square_of function unit acc keys = Some (unit * unit)
