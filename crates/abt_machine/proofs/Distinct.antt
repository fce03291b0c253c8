-- Pools and numbers that are listed, each once.
use Rattle.std.proofs.Common.{◌≡◌, ◌≢◌, ◌<◌, ◌≤◌, ◌+◌, ◌==◌, ◌∙◌, ℕ, ap, Bool, true, false, List, [], ◌∷◌, arith, get_or, length, map, refl, subst, sym, take}
use Rattle.std.specs.Prelude.{All, AllPairs}
use Rattle.std.specs.List.{list_any}
use Rattle.std.proofs.lemmas.Bool.{eq-eqb, eqb-false, eqb-true, or_parts}
use Rattle.std.proofs.lemmas.List.{get_or-take, get_or_default, length-map, length-take-le, take_more}
use Rattle.std.proofs.lemmas.List.Elements.{All-cons, All-map}
use Rattle.std.proofs.lemmas.List.Folds.{Any-from_list_any, list_any_at}
use Rattle.std.proofs.lemmas.List.Kept.{AllPairs-cons}
use Rattle.std.proofs.lemmas.List.Quantifiers.{all_pairs_push}
use Rattle.abt_machine.specs.declared.numbers.PoolNo.{PoolNo}
use Rattle.abt_machine.specs.declared.operations.Rule.{Rule}
use Rattle.abt_machine.specs.Faults.{has_repeated}
use Rattle.abt_machine.specs.Limits.{listed_limit}
use Rattle.abt_machine.specs.Numbers.{pool_no}
use Rattle.abt_machine.specs.Valid.{IsRule, IsSched}
use Rattle.abt_machine.proofs.Elements.{map-pairs}

-- a pool that stands before
abbrev stands : List PoolNo → PoolNo → Bool
stands pools pool = list_any (λ (p : PoolNo). p.0 == pool.0) pools

-- a pool that stands before is listed twice
pub repeated : (pools : List PoolNo) (i : ℕ) (d : PoolNo) → i < length pools → stands (take i pools) (get_or pools i d) ≡ true → AllPairs (λ (a b : PoolNo). a.0 ≢ b.0) pools → ⊥
repeated pools i d within found apart =
    let any = Any-from_list_any (λ (p : PoolNo). p.0 == (get_or pools i d).0) (take i pools) found in
    let k = any.0 in
    let x = any.1 in
    let size : length (take i pools) ≡ i = length-take-le i pools (omega arith) in
    let before : k < i = omega (arith, any.2) in
    let here : get_or pools k x ≡ x = sym (get_or-take i pools k x before) ∙ any.3 in
    let same : x.0 ≡ (get_or pools i d).0 = eqb-true x.0 (get_or pools i d).0 any.4 in
    let other : get_or pools i d ≡ get_or pools i x = get_or_default pools i d x within in
    apart k i x before within (ap (λ (p : PoolNo). p.0) here ∙ same ∙ ap (λ (p : PoolNo). p.0) other)

-- pools are apart with one more that does not stand before
pub not-repeated : (pools : List PoolNo) (i : ℕ) (d : PoolNo) → i < length pools → stands (take i pools) (get_or pools i d) ≡ false
    → AllPairs (λ (a b : PoolNo). a.0 ≢ b.0) (take i pools) → AllPairs (λ (a b : PoolNo). a.0 ≢ b.0) (take (i + 1) pools)
not-repeated pools i d within none apart =
    subst (AllPairs (λ (a b : PoolNo). a.0 ≢ b.0)) (sym (take_more pools i d within))
    (all_pairs_push (λ (a b : PoolNo). a.0 ≢ b.0) (take i pools) (get_or pools i d) apart (λ k e inside same.
    let found = list_any_at (λ (p : PoolNo). p.0 == (get_or pools i d).0) (take i pools) k e inside (eq-eqb (get_or (take i pools) k e).0 (get_or pools i d).0 same) in
    let P : ⊥ = cc in P))

-- what is not among numbers
pub not-among : (ns : List ℕ) (g : ℕ) → list_any (λ h. h == g) ns ≡ false → All (λ m. m ≢ g) ns
not-among [] g e = λ k d within. absurd (omega arith)
not-among (n ∷ ns) g e =
    let parts = or_parts (n == g) (list_any (λ h. h == g) ns) e in
    All-cons (λ m. m ≢ g) n ns (eqb-false n g parts.0) (not-among ns g parts.1)

-- numbers of which none stands twice are apart
pub once-pairs : (ns : List ℕ) → has_repeated ns ≡ false → AllPairs (λ x y. x ≢ y) ns
once-pairs [] e = λ i j d before within. absurd (omega arith)
once-pairs (n ∷ ns) e =
    let parts = or_parts (list_any (λ m. m == n) ns) (has_repeated ns) e in
    AllPairs-cons (λ (x y : ℕ). x ≢ y) n ns (λ k d within same. not-among ns n parts.0 k d within (sym same)) (once-pairs ns parts.1)

-- the numbers of pools that have these numbers
numbers-back : (ns : List ℕ) → map (λ (p : PoolNo). p.0) (map pool_no ns) ≡ ns
numbers-back [] = refl
numbers-back (n ∷ ns) = ap (λ (ms : List ℕ). n ∷ ms) (numbers-back ns)

-- a scheduler that lists the pools of these numbers
pub listing : (pools : ℕ) (r : Rule) (ns : List ℕ) → IsRule r → 0 < length ns → length ns ≤ listed_limit → All (λ n. n < pools) ns → has_repeated ns ≡ false
    → IsSched pools (record { rule = r; pools = map pool_no ns })
listing pools r ns rule some few listed once =
    let count : length (map pool_no ns) ≡ length ns = length-map ns pool_no in
    record {
      rule = rule;
      some_pool = omega arith;
      few_pools = omega arith;
      listed = All-map (λ (p : PoolNo). p.0 < pools) pool_no ns listed;
      once = map-pairs (map pool_no ns) (subst (λ ms. AllPairs (λ x y. x ≢ y) ms) (sym (numbers-back ns)) (once-pairs ns once));
    }
