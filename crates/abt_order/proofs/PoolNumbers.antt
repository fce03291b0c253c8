-- Pools as their numbers.
use Rattle.std.proofs.Common.{◌≡◌, ℕ, ◌<◌, List, length, get_or}
use Rattle.std.proofs.lemmas.List.{get_or-map, length-map}
use Rattle.abt_machine.specs.declared.numbers.PoolNo.{PoolNo}
use Rattle.abt_order.specs.Schedulers.{pool_numbers}

pub length-pool_numbers : (ps : List PoolNo) → length (pool_numbers ps) ≡ length ps
length-pool_numbers ps = length-map ps (λ (p : PoolNo). p.0)

pub get_or-pool_numbers : (ps : List PoolNo) (k : ℕ) (d : PoolNo) → k < length ps → get_or (pool_numbers ps) k 0 ≡ (get_or ps k d).0
get_or-pool_numbers ps k d l = get_or-map (λ (p : PoolNo). p.0) ps k d 0 l
