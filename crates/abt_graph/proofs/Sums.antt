-- The sum of words is a total.
use Rattle.std.proofs.Common.{◌≡◌, ℕ, zero, suc, ◌+◌, ◌*◌, ◌<◌, List, [], ◌∷◌, ◌++◌, Option, Some, None, length, replicate, take, sym, ◌∙◌, ap, arith, lit<, zero-add}
use Rattle.std.specs.Prelude.{◌-◌, ◌%◌, ◌^◌, slice_index, sum}
use Rattle.std.proofs.Math.Nat.{add-mod-mod, mod-eq_of_lt, mod-mod}
use Rattle.std.proofs.lemmas.List.Folds.{sum_by-replicate}
use Rattle.std.proofs.lemmas.List.Sums.{sum_by-append}
use Rattle.std.proofs.lemmas.Nat.{mod_below}
use Rattle.abt_machine.specs.Limits.{key_limit}
use Rattle.abt_flow.specs.Flow.{Functions}
use Rattle.abt_graph.specs.Graphs.{keys_of, returned, word_of}
use Rattle.abt_graph.specs.Shapes.{IsReduction, IsTotal, ReturnsSum, ReturnsTotal, inner_count, mapped, word_sum}
use Rattle.abt_graph.proofs.Totals.{last-total}

sum-append : (xs ys : List ℕ) → sum (xs ++ ys) ≡ sum xs + sum ys
sum-append xs ys = sum_by-append (λ x. x) xs ys

pub word_sum-total : IsTotal word_sum
word_sum-total = record {
  part = λ xs ys.
      let one : sum (word_sum ys ∷ []) ≡ word_sum ys = zero-add (word_sum ys) in
      ap (λ n. n % 2 ^ 64) (sum-append xs (word_sum ys ∷ []) ∙ ap (λ k. sum xs + k) one) ∙ (add-mod-mod (sum xs) (sum ys) (2 ^ 64) ∙ ap (λ n. n % 2 ^ 64) (sym (sum-append xs ys)));
  turned = λ xs ys.
      let turn : sum xs + sum ys ≡ sum ys + sum xs = omega arith in
      ap (λ n. n % 2 ^ 64) (sum-append xs ys ∙ (turn ∙ sym (sum-append ys xs)));
}

-- the zeros behind values add nothing
keys-sum : (values : List ℕ) → sum (keys_of values) ≡ sum values
keys-sum values =
    let zeros : sum (replicate (key_limit - length values) 0) ≡ (key_limit - length values) * 0 = sum_by-replicate (λ x. x) (key_limit - length values) 0 in
    let none : (key_limit - length values) * 0 ≡ 0 = omega arith in
    sum-append values (replicate (key_limit - length values) 0) ∙ (ap (λ k. sum values + k) (zeros ∙ none) ∙ (let e : sum values + 0 ≡ sum values = omega arith in e))

pub returns-word_sum : (R : Functions) (g : ℕ) → ReturnsSum R g → ReturnsTotal R g word_sum
returns-word_sum R g is u values few =
    ap word_of (is u (length values) (keys_of values)) ∙ (mod-mod (sum (keys_of values)) (2 ^ 64) ∙ ap (λ n. n % 2 ^ 64) (keys-sum values))

-- the sum of one word is the word
pub word_sum-one : (n : ℕ) → n < 2 ^ 64 → n ≡ word_sum (n ∷ [])
word_sum-one n below = sym (ap (λ k. k % 2 ^ 64) (zero-add n) ∙ mod-eq_of_lt below)

-- The last value of a reduction by sums.

word-below : (o : Option ℕ) → word_of o < 2 ^ 64
word-below None = lit< tt
word-below (Some n) = mod_below n (2 ^ 64) (lit< tt)

first-of : (values : List ℕ) (w : ℕ) → take 1 values ≡ w ∷ [] → slice_index values 0 ≡ w
first-of [] w is = ap (λ xs. slice_index xs 0) is
first-of (v ∷ values) w is = ap (λ xs. slice_index xs 0) is

pub last-sum : (R : Functions) (n f g : ℕ) (values : List ℕ) → 0 < n → ReturnsSum R g → IsReduction R n f g values → slice_index values (n + inner_count n - 1) ≡ word_sum (mapped R n f)
last-sum R zero f g values some adds is = absurd (omega arith)
last-sum R (suc zero) f g values some adds is =
    let w : ℕ = returned R f 0 [] in
    first-of values w is.leaves ∙ word_sum-one w (word-below (R f 0 0 (keys_of [])))
last-sum R (suc (suc n)) f g values some adds is = last-total R (suc (suc n)) f g word_sum word_sum-total (returns-word_sum R g adds) values is (omega arith)
