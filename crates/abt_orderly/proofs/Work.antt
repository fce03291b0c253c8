-- How much is left to do.
use Rattle.std.proofs.Common.{Vec, ◌≡◌, ℕ, zero, suc, ◌+◌, ◌<◌, ◌≤◌, List, [], ◌∷◌, ◌++◌, length, length-append, Some, set, get_or, take, ap, subst, arith}
use Rattle.std.specs.declared.alloc.Global.{Global}
use Rattle.std.specs.Prelude.{slice_get, sum_by}
use Rattle.std.proofs.lemmas.List.{length_push, take_all}
use Rattle.std.proofs.lemmas.List.Sums.{sum_by-set, sum_by_more, sum_by_push}
use Rattle.std.proofs.lemmas.Option.{get_or_from_slice_get, slice_get_within}
use Rattle.abt_machine.specs.declared.numbers.UnitNo.{UnitNo}
use Rattle.abt_machine.specs.declared.workload.Parts.{Parts}
use Rattle.abt_machine.specs.Lives.{count_up}
use Rattle.abt_flow.specs.Finishing.{op_count}
use Rattle.abt_orderly.specs.Passing.{done_at, one_more, points_done, points_in}

-- one more operation that is done counts one more
pub one-counted : (done : List ℕ) (u : ℕ) → u < length done → points_done (one_more done u) ≡ points_done done + 1
one-counted done u below = let s = sum_by-set (λ k. k) done u (done_at done u + 1) 0 below in omega arith

-- no more are done than there are
module _ (done : List ℕ) (bound : ℕ → ℕ) (each : (u : ℕ) → done_at done u ≤ bound u) where
  first-within : (n : ℕ) → n ≤ length done → points_done (take n done) ≤ sum_by bound (count_up n)
  first-within zero l = omega arith
  first-within (suc n) l =
      let few : done_at done n ≤ bound n = each n in
      let before : points_done (take n done) ≤ sum_by bound (count_up n) = first-within n (omega arith) in
      let long : sum_by bound (count_up (suc n)) ≡ sum_by bound (count_up n) + bound n = sum_by_push bound (count_up n) n in
      let more : points_done (take (n + 1) done) ≡ points_done (take n done) + done_at done n = sum_by_more (λ k. k) done n 0 (omega arith) in
      let step : points_done (take (suc n) done) ≡ points_done (take (n + 1) done) = ap (λ k. points_done (take k done)) (let e : suc n ≡ n + 1 = omega arith in e) in
      omega arith

  all-within : (n : ℕ) → length done ≡ n → points_done done ≤ sum_by bound (count_up n)
  all-within n e = subst (λ ks. points_done ks ≤ sum_by bound (count_up n)) (take_all n done (omega arith)) (first-within n (omega arith))

pub points-within : (W : Parts) (done : List ℕ) → length done ≡ length W.units → ((u : ℕ) → done_at done u ≤ op_count W u + 1) → points_done done ≤ points_in W
points-within W done all each = all-within done (λ u. op_count W u + 1) each (length W.units) all

-- those who waited are in another list
pub same-listed : (ready us : List UnitNo) (waiting : List (Vec UnitNo Global)) (n : ℕ) (was now : Vec UnitNo Global) → slice_get waiting n ≡ Some was → us ≡ ready ++ was.items → now.items ≡ [] →
    length us + sum_by (λ (vs : Vec UnitNo Global). length vs.items) (set waiting n now) ≡ length ready + sum_by (λ (vs : Vec UnitNo Global). length vs.items) waiting
same-listed ready us waiting n was now at more cleared =
    let s = sum_by-set (λ (vs : Vec UnitNo Global). length vs.items) waiting n now was (slice_get_within waiting n was at) in
    let e : length (get_or waiting n was).items ≡ length was.items = ap (λ (vs : Vec UnitNo Global). length vs.items) (get_or_from_slice_get waiting n was was at) in
    let z : length now.items ≡ 0 = ap (λ (vs : List UnitNo). length vs) cleared in
    let f : length us ≡ length (ready ++ was.items) = ap (λ (vs : List UnitNo). length vs) more in
    let a = length-append ready was.items in omega arith

pub one-longer : (us vs : List UnitNo) (u : UnitNo) → vs ≡ us ++ u ∷ [] → length vs ≡ length us + 1
one-longer us vs u e = let f : length vs ≡ length (us ++ u ∷ []) = ap (λ (ws : List UnitNo). length ws) e in let a = length_push us u in omega arith
