-- How many units of a number stand in a list.
use Rattle.std.proofs.Common.{◌≡◌, ℕ, zero, suc, ◌+◌, ◌<◌, ◌==◌, Bool, true, false, List, [], ◌∷◌, ◌++◌, length, map, Option, Some, cond, slice_get, refl, ◌∙◌, ap, arith}
use Rattle.std.specs.Prelude.{slice_set}
use Rattle.std.specs.List.{find, flat_map}
use Rattle.std.proofs.lemmas.List.Sums.{sum_by-append}
use Rattle.abt_machine.specs.Monitors.{list_from, rest}
use Rattle.abt_machine.specs.Pools.{is_unit, without}
use Rattle.abt_machine.specs.Queues.{first, first_alone}
use Rattle.abt_machine.specs.Values.{Owned}
use Rattle.abt_machine.specs.Acts.{received}
use Rattle.abt_calls.specs.Effects.{unit_in}
use Rattle.abt_calls.specs.Units.{times}

pub tally : ℕ → List Owned → ℕ
tally u os = times u os

-- an equation of tallies is one of times
pub times-from : (u : ℕ) (a b c d : List Owned) → tally u a + tally u b ≡ tally u c + tally u d → times u a + times u b ≡ times u c + times u d
unfolding tally
times-from u a b c d e = e

pub times-is : (u : ℕ) (a : List Owned) (n : ℕ) → tally u a ≡ n → times u a ≡ n
unfolding tally
times-is u a n e = e

module _ (u : ℕ) where
  pub tally-nil : tally u [] ≡ 0
  unfolding tally
  tally-nil = refl

  pub tally-append : (xs ys : List Owned) → tally u (xs ++ ys) ≡ tally u xs + tally u ys
  unfolding tally
  tally-append xs ys = sum_by-append (λ o. cond (is_unit u o) 1 0) xs ys

  pub tally-cons : (x : Owned) (xs : List Owned) → tally u (x ∷ xs) ≡ tally u (x ∷ []) + tally u xs
  tally-cons x xs = tally-append (x ∷ []) xs

  pub tally-one : (o : Owned) → tally u (o ∷ []) ≡ cond (o.number == u) 1 0
  unfolding tally
  tally-one o = omega arith

  -- only numbers count
  pub tally-number : (a b : Owned) → a.number ≡ b.number → tally u (a ∷ []) ≡ tally u (b ∷ [])
  unfolding tally
  tally-number a b e = ap (λ n. 0 + cond (n == u) 1 0) e

  pub tally-received : (n : ℕ) (os : List Owned) → tally u (map (received n) os) ≡ tally u os
  tally-received n [] = refl
  tally-received n (x ∷ xs) =
      let h : tally u (map (received n) xs) ≡ tally u xs = tally-received n xs in
      omega (arith, h, tally-cons (received n x) (map (received n) xs), tally-cons x xs, tally-number (received n x) x refl)

  -- the first and the others
  pub tally-rest : (os : List Owned) → tally u os ≡ tally u (unit_in (first os)) + tally u (rest os)
  tally-rest [] = let h : tally u [] ≡ 0 = tally-nil in omega arith
  tally-rest (x ∷ xs) = tally-cons x xs

  pub tally-first_alone : (os : List Owned) → tally u (first_alone os) ≡ tally u (unit_in (first os))
  tally-first_alone [] = refl
  tally-first_alone (x ∷ xs) = refl

  without-by : (v : ℕ) (b : Bool) (x o : Owned) (xs w : List Owned) (f : Option Owned) → cond b (Some x) f ≡ Some o → (f ≡ Some o → tally u xs ≡ tally u (o ∷ []) + tally u w)
      → tally u (x ∷ xs) ≡ tally u (o ∷ []) + tally u (cond b xs (x ∷ w))
  without-by v true x o xs w f e go = let same : x ≡ o = cc in tally-cons x xs ∙ ap (λ q. tally u (q ∷ []) + tally u xs) same
  without-by v false x o xs w f e go = let h : tally u xs ≡ tally u (o ∷ []) + tally u w = go e in omega (arith, h, tally-cons x xs, tally-cons x w)

  -- a unit that is found, and those without it
  pub tally-without : (v : ℕ) (os : List Owned) (o : Owned) → find (is_unit v) os ≡ Some o → tally u os ≡ tally u (o ∷ []) + tally u (without v os)
  tally-without v [] o e = cc
  tally-without v (x ∷ xs) o e = without-by v (is_unit v x) x o xs (without v xs) (find (is_unit v) xs) e (tally-without v xs o)

  -- all units of these lists
  abbrev pub tally_all : List (List Owned) → ℕ
  tally_all cs = tally u (flat_map (λ os. os) cs)

  -- one of the lists becomes another
  pub tally-set : (cs : List (List Owned)) (k : ℕ) (os : List Owned) → k < length cs → tally_all (slice_set cs k os) + tally u (list_from (slice_get cs k)) ≡ tally_all cs + tally u os
  tally-set [] k os l = absurd (omega arith)
  tally-set (c ∷ cs) zero os l = omega (arith, tally-append c (flat_map (λ qs. qs) cs), tally-append os (flat_map (λ qs. qs) cs))
  tally-set (c ∷ cs) (suc k) os l =
      let h : tally_all (slice_set cs k os) + tally u (list_from (slice_get cs k)) ≡ tally_all cs + tally u os = tally-set cs k os (omega arith) in
      omega (arith, h, tally-append c (flat_map (λ qs. qs) cs), tally-append c (flat_map (λ qs. qs) (slice_set cs k os)))
