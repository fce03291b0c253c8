-- What the functions return that the trials' units call.
use Rattle.std.specs.Prelude.{ℕ, zero, suc, ◌+◌, ◌%◌, ◌^◌, List, Option, Some, None, get_or}

-- the sum of a unit's number, its accumulator and its first key modulo 2^64
abbrev pub sum_of : ℕ → ℕ → List ℕ → ℕ
sum_of u acc keys = ((acc + get_or keys 0 0) % 2 ^ 64 + u) % 2 ^ 64

-- function 0 returns that sum, and each other any word
abbrev pub summed : ℕ → ℕ → ℕ → List ℕ → Option ℕ
summed zero u acc keys = Some (sum_of u acc keys)
summed (suc f) u acc keys = None
