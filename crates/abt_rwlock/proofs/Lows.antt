-- How great a sum of counts can be.
use Rattle.std.proofs.Common.{◌<◌, ◌≤◌, ◌^◌, ℕ, List, length, get_or, slice_index, arith}
use Rattle.std.proofs.lemmas.Grind.{get_or_default_zero}
use Rattle.std.proofs.lemmas.List.Sums.{sum_by-le}
use Rattle.std.specs.List.{sum}

-- each count is low
at-most : (ns : List ℕ) → ((k : ℕ) → slice_index ns k < 65536) → (k d : ℕ) → k < length ns → get_or ns k d ≤ 65535
at-most ns small k d lt = let s : get_or ns k 0 < 65536 = small k in rw (get_or_default_zero ns k d lt) (omega (arith, s))

-- counts below 2^16, fewer than 2^32 of them, have a low sum
pub sum-low : (ns : List ℕ) → ((k : ℕ) → slice_index ns k < 65536) → length ns < 2 ^ 32 → sum ns < 2 ^ 48
sum-low ns small few = omega (arith, few, sum_by-le (λ x. x) 65535 ns (at-most ns small))
