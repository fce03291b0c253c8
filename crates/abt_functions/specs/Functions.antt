-- The functions that a workload text may call, by number.
use Rattle.std.specs.Prelude.{ℕ, ◌%◌, ◌^◌, List, [], ◌∷◌, Option, Some, count_ones, max, slice_index_or, sum}
use Rattle.abt_functions.specs.Primes.{greatest_prime_factor, primes_below}
use Rattle.abt_functions.specs.Series.{collatz, fibonacci, square_root}

-- a number is taken modulo this where the time of a function grows with it
abbrev pub range_limit : ℕ
range_limit = 1048576

-- the greatest of these numbers, 0 if there is none
abbrev pub greatest : List ℕ → ℕ
greatest [] = 0
greatest (n ∷ ns) = max n (greatest ns)

-- what the functions return for an accumulator and keys, in the order of their numbers: the terms of Collatz's sequence, the number of
-- primes below the accumulator, its square root, its greatest prime factor, the Fibonacci number of it, its bits that are 1, the
-- sum of the keys, and the greatest of them
abbrev pub results : ℕ → List ℕ → List ℕ
results acc keys =
    collatz acc ∷ primes_below (acc % range_limit) ∷ square_root acc ∷ greatest_prime_factor (acc % range_limit) ∷
    fibonacci (acc % range_limit) % 2 ^ 64 ∷ count_ones acc ∷ sum keys % 2 ^ 64 ∷ greatest keys ∷ []

-- what the function of this number returns, whatever its unit is
abbrev pub text_function : ℕ → ℕ → List ℕ → ℕ
text_function f acc keys = slice_index_or (results acc keys) f 0

-- as a run is given it
abbrev pub text_functions : ℕ → ℕ → ℕ → List ℕ → Option ℕ
text_functions f unit acc keys = Some (text_function f acc keys)
