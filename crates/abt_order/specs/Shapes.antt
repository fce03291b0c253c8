-- What a stored order of each shape answers.
use Rattle.std.specs.Prelude.{ℕ, ◌+◌, ◌-◌, ◌%◌, ◌^◌, ◌<◌, ◌≤◌, ◌==◌, nat_lt, Bool}
use Rattle.abt_machine.specs.declared.operations.OrderShape.{OrderShape}
use Rattle.abt_machine.specs.declared.operations.OrderShape.TheVariants as shape
use Rattle.abt_machine.specs.Limits.{listed_limit}

-- whether an order of this shape may answer so for a round, n pools and place i
abbrev pub fits_shape : OrderShape → ℕ → ℕ → ℕ → ℕ → Bool
fits_shape shape.Rotate round n i answer = answer == (round + i) % n
fits_shape shape.Mirror round n i answer = answer == n - 1 - i
fits_shape shape.Free round n i answer = nat_lt answer n

-- a round, a number of pools and a place that a scheduler may ask for
abbrev pub IsAsked : ℕ → ℕ → ℕ → Type 0
IsAsked round n i = (round < 2 ^ 64) × (0 < n) × (n ≤ listed_limit) × (i < n)
