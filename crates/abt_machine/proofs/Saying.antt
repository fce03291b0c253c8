-- Words are said in their order exactly if their numbers count up from 0.
use Rattle.std.proofs.Common.{◌≡◌, ◌+◌, ◌<◌, ◌==◌, ◌∙◌, ◌↔◌, eqb, ℕ, zero, suc, Bool, true, false, List, [], ◌∷◌, ◌++◌, Option, Some, None, IsTrue, ap, arith, cond, drop, flat_map, get_or, length, refl, subst, sym}
use Rattle.std.specs.Prelude.{option_and_then}
use Rattle.std.specs.Option.{option_eq}
use Rattle.std.specs.List.{range_with_len}
use Rattle.std.proofs.lemmas.Bool.{eq-eqb, eqb-true}
use Rattle.abt_machine.specs.declared.operations.Op.{Op}
use Rattle.abt_machine.specs.declared.workload.UnitPart.{UnitPart}
use Rattle.abt_machine.specs.Checks.{after_said}
use Rattle.abt_machine.specs.Operations.{said_by}
use Rattle.abt_machine.specs.Workloads.{ops_of}
use Rattle.abt_machine.proofs.Weighing.{drop-more}

-- the words of two lists are said in order if those of the first are, and then those of the second
said-append : (n : ℕ) (xs ys : List ℕ) → after_said n (xs ++ ys) ≡ option_and_then (λ m. after_said m ys) (after_said n xs)
said-append n [] ys = refl
said-append n (w ∷ ws) ys = by (w == n) (said-append (n + 1) ws ys)
  where
    by : (t : Bool) → after_said (n + 1) (ws ++ ys) ≡ option_and_then (λ m. after_said m ys) (after_said (n + 1) ws)
        → cond t (after_said (n + 1) (ws ++ ys)) None ≡ option_and_then (λ m. after_said m ys) (cond t (after_said (n + 1) ws) None)
    by true rest = rest
    by false rest = refl

-- the words that units say
abbrev pub said_by_units : List UnitPart → List ℕ
said_by_units = flat_map (λ (part : UnitPart). flat_map said_by (ops_of part.body))

-- after a unit come the units after it
pub said-step : (units : List UnitPart) (i : ℕ) (part : UnitPart) (ops : List Op) (next : ℕ) (o p : Option ℕ)
    → part ≡ get_or units i part → i < length units → ops ≡ ops_of part.body → o ≡ after_said next (flat_map said_by ops) → o ≡ p
    → option_and_then (λ m. after_said m (said_by_units (drop (i + 1) units))) p ≡ after_said next (said_by_units (drop i units))
said-step units i part ops next o p is within made says same =
    let rest = said_by_units (drop (i + 1) units) in
    let here : p ≡ after_said next (flat_map said_by (ops_of part.body)) = sym same ∙ says ∙ ap (λ os. after_said next (flat_map said_by os)) made in
    ap (option_and_then (λ m. after_said m rest)) here
    ∙ sym (said-append next (flat_map said_by (ops_of part.body)) rest)
    ∙ sym (ap (λ us. after_said next (said_by_units us)) (drop-more units i part is within))

-- numbers that count up are in order
said-range : (n k : ℕ) → after_said n (range_with_len n k) ≡ Some (n + k)
said-range n zero = ap Some (let e : n ≡ n + 0 = omega arith in e)
said-range n (suc k) =
    subst (λ (t : Bool). cond t (after_said (n + 1) (range_with_len (n + 1) k)) None ≡ Some (n + suc k)) (sym (eq-eqb n n refl))
    (said-range (n + 1) k ∙ ap Some (let e : (n + 1) + k ≡ n + suc k = omega arith in e))

-- numbers in order count up
range-said : (n m : ℕ) (xs : List ℕ) → after_said n xs ≡ Some m → (m ≡ n + length xs) × (xs ≡ range_with_len n (length xs))
range-said n m [] e = (let same : n ≡ m = cc in omega arith, refl)
range-said n m (w ∷ ws) e = by (w == n) refl (range-said (n + 1) m ws) e
  where
    by : (t : Bool) → (w == n) ≡ t → (after_said (n + 1) ws ≡ Some m → (m ≡ (n + 1) + length ws) × (ws ≡ range_with_len (n + 1) (length ws)))
        → cond t (after_said (n + 1) ws) None ≡ Some m → (m ≡ n + length (w ∷ ws)) × (w ∷ ws ≡ range_with_len n (length (w ∷ ws)))
    by false test later h = cc
    by true test later h =
        let rest = later h in
        let first : w ≡ n = eqb-true w n test in
        let count = rest.0 in
        (omega arith, ap (λ v. v ∷ ws) first ∙ ap (λ vs. n ∷ vs) rest.1)

-- the words are said in order if the number after them is how many there are
pub said-order : (xs : List ℕ) (k : ℕ) → (after_said 0 xs ≡ Some k) ↔ (xs ≡ range_with_len 0 k)
said-order xs k = (
  λ e. let h = range-said 0 k xs e in let count : length xs ≡ k = let c = h.0 in omega arith in h.1 ∙ ap (range_with_len 0) count,
  λ e. ap (after_said 0) e ∙ said-range 0 k ∙ ap Some (let same : 0 + k ≡ k = omega arith in same),
)

-- what the comparison with the number of words says
pub said-test : (b : Bool) (o : Option ℕ) (xs : List ℕ) (k : ℕ) → b ≡ option_eq eqb o (Some k) → o ≡ after_said 0 xs → IsTrue b ↔ (xs ≡ range_with_len 0 k)
said-test b None xs k test is = (λ t. cc, λ e. absurd (let after = (said-order xs k).1 e in let P : ⊥ = cc in P))
said-test b (Some n) xs k test is = (
  λ t. let same : n ≡ k = eqb-true n k (sym test ∙ t) in (said-order xs k).0 (sym is ∙ ap Some same),
  λ e. let after = (said-order xs k).1 e in let same : n ≡ k = cc in test ∙ eq-eqb n k same,
)
