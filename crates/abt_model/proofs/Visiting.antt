-- Which pools a round may visit next.
use Rattle.std.proofs.Common.{◌≡◌, ◌∙◌, ◌&&◌, ◌||◌, not, ℕ, zero, suc, ◌+◌, ◌<◌, ◌≤◌, ◌==◌, Bool, true, false, List, [], ◌∷◌, ◌++◌, Contains, Option, None, Some, ap, append_assoc, arith, get_or, length, length-append, refl, slice_get, subst, sym}
use Rattle.std.specs.List.{All, IsDistinct, list_any}
use Rattle.std.specs.Prelude.{◌↔◌, IsTrue, option_map}
use Rattle.std.specs.List.Sorted.{IsPermutation}
use Rattle.std.proofs.Math.Seq.{get_or-append_seam}
use Rattle.std.proofs.lemmas.Bool.{eq-eqb, eqb-true}
use Rattle.std.proofs.lemmas.Bool.Decides.{Decides-eqb}
use Rattle.std.proofs.lemmas.List.{get_or_append_left}
use Rattle.std.proofs.lemmas.List.Sorted.{length_permutation}
use Rattle.std.proofs.lemmas.Map.Keys.{IsDistinct-IsPermutation, apart_from_distinct}
use Rattle.std.proofs.lemmas.Map.Made.{IsDistinct-from_AllPairs}
use Rattle.abt_machine.specs.declared.numbers.PoolNo.{PoolNo}
use Rattle.abt_machine.specs.declared.operations.OrderShape.{OrderShape}
use Rattle.abt_machine.specs.declared.operations.OrderShape.TheVariants as shape
use Rattle.abt_machine.specs.declared.operations.Rule.{Rule}
use Rattle.abt_machine.specs.declared.operations.Rule.TheVariants as rule
use Rattle.abt_machine.specs.declared.workload.Parts.{Parts}
use Rattle.abt_machine.specs.declared.workload.SchedPart.{SchedPart}
use Rattle.abt_machine.specs.Limits.{listed_limit}
use Rattle.abt_machine.specs.Rounds.{AnyOrder, Choice, IsChosen, IsNextPool, IsOrder, Only, choice_by, choice_of, shaped}
use Rattle.abt_machine.specs.Sound.{IsUnderWay}
use Rattle.abt_machine.specs.State.{Frame}
use Rattle.abt_machine.specs.Valid.{IsValid}
use Rattle.abt_machine.specs.Workloads.{pools_from, pools_of, rule_of}
use Rattle.abt_machine.proofs.Declared.{few-listed, listed-declared, listed-once}
use Rattle.abt_bounds.proofs.Freedom.{free-orders-are-free}
use Rattle.abt_laws.proofs.Orders.{next_pool-listed, order-permutes}
use Rattle.abt_order.specs.Schedulers.{pool_numbers}
use Rattle.abt_order.proofs.PoolNumbers.{length-pool_numbers}
use Rattle.abt_model.specs.Stored.{stored_with}
use Rattle.abt_replay.specs.Nexts.{NextIs}
use Rattle.abt_replay.specs.declared.rounds.Next.{Next}
use Rattle.abt_replay.specs.declared.rounds.Next.TheVariants as next

-- an order leaves the choice open only if a user stored it as a free one
abbrev IsFree : List OrderShape → Option Rule → Type 0
IsFree Z o = (k : ℕ) × (o ≡ Some (rule.User k)) × (slice_get Z k ≡ Some shape.Free)

shaped-free : (o : Option OrderShape) (r : ℕ) (ps : List ℕ) → shaped o r ps ≡ AnyOrder → o ≡ Some shape.Free
shaped-free (Some shape.Rotate) r ps e = cc
shaped-free (Some shape.Mirror) r ps e = cc
shaped-free (Some shape.Free) r ps e = refl
shaped-free None r ps e = cc

chosen-free : (W : Parts) (Z : List OrderShape) (g r : ℕ) (o : Option Rule) (ps : List ℕ) → choice_by W Z g r o ps ≡ AnyOrder → IsFree Z o
chosen-free W Z g r (Some rule.Basic) ps e = cc
chosen-free W Z g r (Some rule.Prio) ps e = cc
chosen-free W Z g r (Some (rule.Randws seed)) ps e = cc
chosen-free W Z g r (Some (rule.User k)) ps e = (k, refl, shaped-free (slice_get Z k) r ps e)
chosen-free W Z g r None ps e = cc

flips-by : (x y : ℕ) (a b : Bool) → (x == y) ≡ a → (y == x) ≡ b → a ≡ b
flips-by x y true true e h = refl
flips-by x y true false e h = let no : (y == x) ≡ true = eq-eqb y x (sym (eqb-true x y e)) in cc
flips-by x y false true e h = let no : (x == y) ≡ true = eq-eqb x y (sym (eqb-true y x h)) in cc
flips-by x y false false e h = refl

module _ (W : Parts) (Z : List OrderShape) (f : Frame) where
  -- the round has seen fewer pools than its scheduler lists
  pub seen-few : IsUnderWay W Z f → length f.seen < length (pools_of W f.sched)
  seen-few way =
      let all : length way.0 ≡ length (pools_of W f.sched) = length_permutation (pools_of W f.sched) way.0 (order-permutes W (stored_with Z (λ f u acc keys. None)) f.sched f.round way.0 way.1) in
      let long : length (f.seen ++ way.2 ∷ way.3) ≡ length f.seen + length (way.2 ∷ way.3) = length-append f.seen (way.2 ∷ way.3) in
      let same : length (f.seen ++ way.2 ∷ way.3) ≡ length way.0 = ap (λ (xs : List ℕ). length xs) way.4 in omega arith

  module _ (one : List ℕ) (p q : ℕ) (is : choice_of W Z f.sched f.round ≡ Only one) (at : get_or one (length f.seen) 0 ≡ q) where
    only : (order : List ℕ) → IsOrder W Z f.sched f.round order → order ≡ one
    only order h = subst (λ (c : Choice). IsChosen c (pools_of W f.sched) order) is h

    -- of one order the pool behind those that were seen is next
    pub next-is : IsNextPool W Z f p → q ≡ p
    next-is next =
        let same : one ≡ f.seen ++ p ∷ next.2.0 = sym (only next.0 next.1) ∙ (sym next.2.1 ∙ append_assoc f.seen (p ∷ []) next.2.0) in
        sym at ∙ (ap (λ (xs : List ℕ). get_or xs (length f.seen) 0) same ∙ get_or-append_seam f.seen p next.2.0 0)

    pub is-next : IsUnderWay W Z f → q ≡ p → IsNextPool W Z f p
    is-next way e =
        let there : get_or way.0 (length f.seen) 0 ≡ way.2 = ap (λ (xs : List ℕ). get_or xs (length f.seen) 0) (sym way.4) ∙ get_or-append_seam f.seen way.2 way.3 0 in
        let same : p ≡ way.2 = sym e ∙ (sym at ∙ (ap (λ (xs : List ℕ). get_or xs (length f.seen) 0) (sym (only way.0 way.1)) ∙ there)) in
        (way.0, way.1, (way.3, append_assoc f.seen (p ∷ []) way.3 ∙ (ap (λ x. f.seen ++ x ∷ way.3) same ∙ way.4)))

  -- of a free order each pool that was not seen is next
  pub unseen-next : (p : ℕ) → IsUnderWay W Z f → choice_of W Z f.sched f.round ≡ AnyOrder → Contains (pools_of W f.sched) p → (Contains f.seen p → ⊥) → IsNextPool W Z f p
  unseen-next p way is listed unseen =
      let free : IsFree Z (rule_of W f.sched) = chosen-free W Z f.sched f.round (rule_of W f.sched) (pools_of W f.sched) is in
      free-orders-are-free W (stored_with Z (λ f u acc keys. None)) f free.0 p way free.1 free.2 listed unseen

  -- no order visits a pool twice
  pub next-unseen : (p : ℕ) → IsValid W → IsNextPool W Z f p → Contains f.seen p → ⊥
  next-unseen p valid next seen =
      let apart : IsDistinct (λ x y. x == y) (pools_of W f.sched) = IsDistinct-from_AllPairs Decides-eqb (pools_of W f.sched) (listed-once W f.sched valid) in
      let order : List ℕ = f.seen ++ p ∷ next.2.0 in
      let same : next.0 ≡ order = sym next.2.1 ∙ append_assoc f.seen (p ∷ []) next.2.0 in
      let permutes : IsPermutation (pools_of W f.sched) order = subst (IsPermutation (pools_of W f.sched)) same (order-permutes W (stored_with Z (λ f u acc keys. None)) f.sched f.round next.0 next.1) in
      let distinct : IsDistinct (λ x y. x == y) order = IsDistinct-IsPermutation (λ x y. x == y) (λ x y. flips-by x y (x == y) (y == x) refl refl) (pools_of W f.sched) order permutes apart in
      let long : length order ≡ length f.seen + length (p ∷ next.2.0) = length-append f.seen (p ∷ next.2.0) in
      let k : ℕ = seen.0 in
      let below : k < length f.seen = seen.1 in
      let differ : (get_or order k p == get_or order (length f.seen) p) ≡ false = apart_from_distinct (λ x y. x == y) order k (length f.seen) p distinct below (omega arith) in
      let one : get_or order k p ≡ p = get_or_append_left f.seen (p ∷ next.2.0) p k below ∙ seen.2 in
      let two : get_or order (length f.seen) p ≡ p = get_or-append_seam f.seen p next.2.0 p in
      let equal : (get_or order k p == get_or order (length f.seen) p) ≡ true = eq-eqb (get_or order k p) (get_or order (length f.seen) p) (one ∙ sym two) in cc

-- Pools in a list.

abbrev is_pool : ℕ → PoolNo → Bool
is_pool p q = q.0 == p

listed-by : (q : PoolNo) (ps : List PoolNo) (p : ℕ) (b : Bool) → (q.0 == p) ≡ b → (b || list_any (is_pool p) ps) ≡ true → (list_any (is_pool p) ps ≡ true → Contains (pool_numbers ps) p) → Contains (pool_numbers (q ∷ ps)) p
listed-by q ps p true e h rest = (0, omega arith, eqb-true q.0 p e)
listed-by q ps p false e h rest =
    let has : Contains (pool_numbers ps) p = rest h in
    let l : has.0 < length (pool_numbers ps) = has.1 in (suc has.0, omega arith, has.2)

pub any-listed : (ps : List PoolNo) (p : ℕ) → list_any (is_pool p) ps ≡ true → Contains (pool_numbers ps) p
any-listed [] p h = cc
any-listed (q ∷ ps) p h = listed-by q ps p (q.0 == p) refl h (any-listed ps p)

none-by : (q : PoolNo) (p : ℕ) (b rest : Bool) → (q.0 == p) ≡ b → (b || rest) ≡ false → (q.0 ≡ p → ⊥) × (rest ≡ false)
none-by q p true rest e h = cc
none-by q p false rest e h = ((λ same. let yes : (q.0 == p) ≡ true = eq-eqb q.0 p same in cc), h)

pub none-listed : (ps : List PoolNo) (p : ℕ) → list_any (is_pool p) ps ≡ false → Contains (pool_numbers ps) p → ⊥
none-listed [] p h (k, l, is) = absurd (omega arith)
none-listed (q ∷ ps) p h (zero, l, is) = (none-by q p (q.0 == p) (list_any (is_pool p) ps) refl h).0 is
none-listed (q ∷ ps) p h (suc k, l, is) = none-listed ps p (none-by q p (q.0 == p) (list_any (is_pool p) ps) refl h).1 (k, omega arith, is)

-- whether a pool is listed and was not seen, by the two tests
pub is_open-by : (ps qs : List PoolNo) (p : ℕ) (a b : Bool) → a ≡ list_any (is_pool p) ps → b ≡ list_any (is_pool p) qs → IsTrue (a && not b) ↔ (Contains (pool_numbers ps) p × (Contains (pool_numbers qs) p → ⊥))
is_open-by ps qs p true true e h = (λ t. cc, λ has. absurd (has.1 (any-listed qs p (sym h))))
is_open-by ps qs p true false e h = (λ t. (any-listed ps p (sym e), none-listed qs p (sym h)), λ has. refl)
is_open-by ps qs p false b e h = (λ t. cc, λ has. absurd (none-listed ps p (sym e) has.0))

-- what the next pool of a round is, in the words of the code
module _ (W : Parts) (Z : List OrderShape) (f : Frame) (part : SchedPart) (pools : List PoolNo) (there : slice_get W.scheds f.sched ≡ Some part) (listed : pools ≡ part.pools) where
  pub pools-are : pool_numbers pools ≡ pools_of W f.sched
  pools-are = ap pool_numbers listed ∙ sym (ap pools_from there)

  pub rule-is : rule_of W f.sched ≡ Some part.rule
  rule-is = ap (option_map (λ (part : SchedPart). part.rule)) there

  pub place-within : (n : ℕ) (seen : List PoolNo) → IsUnderWay W Z f → f.seen ≡ pool_numbers seen → n ≡ length seen → n < length pools
  place-within n seen way is at =
      let few : length f.seen < length (pools_of W f.sched) = seen-few W Z f way in
      let a : length (pools_of W f.sched) ≡ length pools = ap (λ (xs : List ℕ). length xs) (sym pools-are) ∙ length-pool_numbers pools in
      let b : length f.seen ≡ length seen = ap (λ (xs : List ℕ). length xs) is ∙ length-pool_numbers seen in omega arith

  pub next-stands : (n : ℕ) (visit : Next) → n ≡ length f.seen → NextIs (choice_by W Z f.sched f.round (Some part.rule) (pool_numbers pools)) n visit → NextIs (choice_of W Z f.sched f.round) (length f.seen) visit
  next-stands n visit at is =
      subst (λ k. NextIs (choice_of W Z f.sched f.round) k visit) at
      (subst (λ (c : Choice). NextIs c n visit) (ap (λ (ps : List ℕ). choice_by W Z f.sched f.round (Some part.rule) ps) pools-are ∙ ap (λ o. choice_by W Z f.sched f.round o (pools_of W f.sched)) (sym rule-is)) is)

  pub pools-declared : IsValid W → IsUnderWay W Z f → All (λ p. p < length W.pools) (pool_numbers pools)
  pools-declared valid way = subst (All (λ p. p < length W.pools)) (sym pools-are) (listed-declared W f.sched valid)

  pub few-pools : IsValid W → IsUnderWay W Z f → length pools ≤ listed_limit
  few-pools valid way =
      let few : length (pools_of W f.sched) ≤ listed_limit = few-listed W f.sched valid in
      let a : length (pools_of W f.sched) ≡ length pools = ap (λ (xs : List ℕ). length xs) (sym pools-are) ∙ length-pool_numbers pools in omega arith

pub is-closed : (ps qs : List PoolNo) (p : ℕ) (a : Bool) → a ≡ false → a ≡ list_any (is_pool p) ps → IsTrue a ↔ (Contains (pool_numbers ps) p × (Contains (pool_numbers qs) p → ⊥))
is-closed ps qs p a off e = (λ t. cc, λ has. absurd (none-listed ps p (sym e ∙ off) has.0))

-- what the code finds is whether the pool may be next
pub one-visit : (W : Parts) (Z : List OrderShape) (f : Frame) (visit : Next) (q : PoolNo) (p : ℕ) → IsUnderWay W Z f → NextIs (choice_of W Z f.sched f.round) (length f.seen) visit → visit ≡ next.One q → IsTrue (q.0 == p) ↔ IsNextPool W Z f p
one-visit W Z f visit q p way is e =
    let found_next : NextIs (choice_of W Z f.sched f.round) (length f.seen) (next.One q) = subst (NextIs (choice_of W Z f.sched f.round) (length f.seen)) e is in
    (λ t. is-next W Z f found_next.0 p q.0 found_next.1 found_next.2 way (eqb-true q.0 p t), λ n. eq-eqb q.0 p (next-is W Z f found_next.0 p q.0 found_next.1 found_next.2 n))

pub open-visit : (W : Parts) (Z : List OrderShape) (f : Frame) (visit : Next) (ps seen : List ℕ) (b : Bool) (p : ℕ) → IsValid W → IsUnderWay W Z f → NextIs (choice_of W Z f.sched f.round) (length f.seen) visit → visit ≡ next.Any
    → ps ≡ pools_of W f.sched → seen ≡ f.seen → (IsTrue b ↔ (Contains ps p × (Contains seen p → ⊥))) → IsTrue b ↔ IsNextPool W Z f p
open-visit W Z f visit ps seen b p valid way is e pools before found =
    let found_next : NextIs (choice_of W Z f.sched f.round) (length f.seen) next.Any = subst (NextIs (choice_of W Z f.sched f.round) (length f.seen)) e is in (
      λ t. unseen-next W Z f p way found_next (subst (λ xs. Contains xs p) pools (found.0 t).0) (λ has. (found.0 t).1 (subst (λ xs. Contains xs p) (sym before) has)),
      λ n. found.1 (subst (λ xs. Contains xs p) (sym pools) (next_pool-listed W (stored_with Z (λ f u acc keys. None)) f p n), λ has. next-unseen W Z f p valid n (subst (λ xs. Contains xs p) before has)),
    )
