-- How great a sum of counts can be.
use Rattle.std.proofs.Common.{◌<◌, ◌≤◌, ◌^◌, ℕ, List, length, get_or, slice_index, arith}
use Rattle.std.proofs.lemmas.Grind.{get_or_default_zero}
use Rattle.std.proofs.lemmas.List.Sums.{sum_by-le}
use Rattle.std.specs.List.{sum}

-- each count is below 2^32
at-most : (ns : List ℕ) → ((k : ℕ) → slice_index ns k < 4294967296) → (k d : ℕ) → k < length ns → get_or ns k d ≤ 4294967295
at-most ns small k d lt = let s : get_or ns k 0 < 4294967296 = small k in rw (get_or_default_zero ns k d lt) (omega (arith, s))

-- counts below 2^32, fewer than 2^32 of them, have a sum that has room for one more
pub sum-low : (ns : List ℕ) → ((k : ℕ) → slice_index ns k < 4294967296) → length ns < 2 ^ 32 → sum ns < 18446744065119617026
sum-low ns small few = omega (arith, few, sum_by-le (λ x. x) 4294967295 ns (at-most ns small))
