-- Leaves, and the nodes that take their values up.
use Rattle.std.proofs.Common.{◌≡◌, ℕ, zero, suc, ◌+◌, ◌-◌, ◌*◌, ◌<◌, ◌≤◌, List, [], ◌∷◌, Some, length, map, take, slice_get, sym, ◌∙◌, ap, subst, arith, inl, inr, length-append}
use Rattle.std.specs.Prelude.{◌⊎◌, All, sum_by}
use Rattle.std.specs.List.{range_with_len}
use Rattle.std.proofs.Math.Nat.{min-le_left, min-le_right}
use Rattle.std.proofs.lemmas.List.{length-replicate, length-take-le}
use Rattle.std.proofs.lemmas.List.FromFn.{length-map-range_with_len}
use Rattle.std.proofs.lemmas.List.Folds.{sum_by-replicate}
use Rattle.std.proofs.lemmas.List.Sums.{sum_by-append}
use Rattle.std.proofs.lemmas.Option.{slice_get_within}
use Rattle.abt_machine.specs.declared.numbers.UnitNo.{UnitNo}
use Rattle.abt_machine.specs.Limits.{function_limit}
use Rattle.abt_machine.specs.Numbers.{unit_no}
use Rattle.abt_flow.specs.Flow.{Functions}
use Rattle.abt_graph.specs.Graphs.{AreValues, HasFunctions, IsFunction, IsGraph, IsNode, op_count, returned, values_of}
use Rattle.abt_graph.specs.Shapes.{IsReduction, inner, inner_count, lone, map_nodes, mapped, reduction_nodes, taken_count}
use Rattle.abt_graph.specs.declared.nodes.Node.{Node}
use Rattle.abt_generate.proofs.Lists.{none-some}
use Rattle.abt_graph.proofs.GraphParts.{either}
use Rattle.abt_graph.proofs.Lists.{get-before, same-places}
use Rattle.abt_graph.proofs.Mapping.{lone-is-node}
use Rattle.abt_graph.proofs.Shaping.{copy-at, copy-there, get-after, made-at, made-there, sum_by-most, values-between}
use Rattle.abt_graph.proofs.Values.{values-fit}

-- Inner nodes are nodes.

taken-before : (u a c : ℕ) → a + c ≤ u → All (λ (x : UnitNo). x.0 < u) (map unit_no (range_with_len a c))
taken-before u a zero within = λ i d below. absurd (omega arith)
taken-before u a (suc c) within = by (taken-before u (a + 1) c (omega arith))
  where
    by : All (λ (x : UnitNo). x.0 < u) (map unit_no (range_with_len (a + 1) c)) → All (λ (x : UnitNo). x.0 < u) (unit_no a ∷ map unit_no (range_with_len (a + 1) c))
    by rest zero d below = omega arith
    by rest (suc i) d below = rest i d (omega arith)

pub inner-is-node : (n g j : ℕ) → g < function_limit → j < inner_count n → IsNode (n + j) (inner n g j)
inner-is-node n g j below there =
    let few : taken_count n j ≤ 16 = min-le_left 16 (n + j - 16 * j) in
    let less : taken_count n j ≤ n + j - 16 * j = min-le_right 16 (n + j - 16 * j) in
    let range : length (map unit_no (range_with_len (16 * j) (taken_count n j))) ≡ taken_count n j = length-map-range_with_len unit_no (16 * j) (taken_count n j) in
    record {
      function = below;
      few = omega arith;
      earlier = taken-before (n + j) (16 * j) (taken_count n j) (omega arith);
    }

-- a node of a reduction is a leaf or an inner node
abbrev IsPlace : ℕ → ℕ → ℕ → ℕ → Node → Type 0
IsPlace n f g u node = ((u < n) × (lone f ≡ node)) ⊎ ((j : ℕ) × (u ≡ n + j) × (j < inner_count n) × (inner n g j ≡ node))

place-of : (n f g u : ℕ) (node : Node) → slice_get (reduction_nodes n f g) u ≡ Some node → IsPlace n f g u node
place-of n f g u node is = by (either u n)
  where
    long : length (map_nodes n f) ≡ n
    long = length-replicate n (lone f)

    by : (u < n) ⊎ (n ≤ u) → IsPlace n f g u node
    by (inl below) = inl (below, copy-at n (lone f) u node (sym (get-before (map_nodes n f) (map (inner n g) (range_with_len 0 (inner_count n))) u (let l = long in omega arith)) ∙ is))
    by (inr above) =
        let at : u ≡ n + (u - n) = omega arith in
        let made = made-at (inner n g) (inner_count n) (u - n) node (sym (get-after (map_nodes n f) (map (inner n g) (range_with_len 0 (inner_count n))) u (u - n) (let l = long in omega arith)) ∙ is) in
        inr (u - n, at, made.0, made.1)

pub length-reduction : (n f g : ℕ) → length (reduction_nodes n f g) ≡ n + inner_count n
length-reduction n f g =
    let leaves : length (map_nodes n f) ≡ n = length-replicate n (lone f) in
    let inners : length (map (inner n g) (range_with_len 0 (inner_count n))) ≡ inner_count n = length-map-range_with_len (inner n g) 0 (inner_count n) in
    let all : length (reduction_nodes n f g) ≡ length (map_nodes n f) + length (map (inner n g) (range_with_len 0 (inner_count n))) = length-append (map_nodes n f) (map (inner n g) (range_with_len 0 (inner_count n))) in
    omega arith

pub IsGraph-reduction : (n f g : ℕ) → n ≤ 61440 → f < function_limit → g < function_limit → IsGraph (reduction_nodes n f g)
IsGraph-reduction n f g few leaf node =
    let long : length (reduction_nodes n f g) ≡ n + inner_count n = length-reduction n f g in
    let inners : List Node = map (inner n g) (range_with_len 0 (inner_count n)) in
    let count : length inners ≡ inner_count n = length-map-range_with_len (inner n g) 0 (inner_count n) in
    let leaf_ops : sum_by op_count (map_nodes n f) ≡ n * 4 = sum_by-replicate op_count n (lone f) in
    let inner_ops : sum_by op_count inners ≤ length inners * 36 = sum_by-most op_count 36 inners (λ j node is.
    let at = made-at (inner n g) (inner_count n) j node is in
    subst (λ (m : Node). op_count m ≤ 36) at.1
    (let most : taken_count n j ≤ 16 = min-le_left 16 (n + j - 16 * j) in let range : length (map unit_no (range_with_len (16 * j) (taken_count n j))) ≡ taken_count n j = length-map-range_with_len unit_no (16 * j) (taken_count n j) in omega arith)) in
    let ops : sum_by op_count (reduction_nodes n f g) ≡ sum_by op_count (map_nodes n f) + sum_by op_count inners = sum_by-append op_count (map_nodes n f) inners in
    record { few = omega arith; few_ops = omega arith; each = λ u m is. by u m (place-of n f g u m is) }
  where
    by : (u : ℕ) (m : Node) → IsPlace n f g u m → IsNode u m
    by u m (inl a) = subst (IsNode u) a.1 (lone-is-node u f leaf)
    by u m (inr b) = subst (IsNode u) b.3 (subst (λ v. IsNode v (inner n g b.0)) (sym b.1) (inner-is-node n g b.0 node b.2))

-- The values of a reduction.

take-of : (xs : List ℕ) (n u v : ℕ) → slice_get (take n xs) u ≡ Some v → slice_get xs u ≡ Some v
take-of [] zero u v is = is
take-of [] (suc n) u v is = is
take-of (x ∷ xs) zero u v is = absurd (none-some is)
take-of (x ∷ xs) (suc n) zero v is = is
take-of (x ∷ xs) (suc n) (suc u) v is = take-of xs n u v is

pub IsReduction-values : (R : Functions) (n f g : ℕ) → n ≤ 61440 → f < function_limit → g < function_limit → IsReduction R n f g (values_of R (reduction_nodes n f g))
IsReduction-values R n f g few leaf node =
    let nodes : List Node = reduction_nodes n f g in
    let V : List ℕ = values_of R nodes in
    let fit : AreValues R nodes V = values-fit R nodes (IsGraph-reduction n f g few leaf node) in
    let long : length V ≡ n + inner_count n = fit.one_each ∙ length-reduction n f g in
    let leaves : length (map_nodes n f) ≡ n = length-replicate n (lone f) in
    let rest : List Node = map (inner n g) (range_with_len 0 (inner_count n)) in
    let mapped_long : length (mapped R n f) ≡ n = length-map-range_with_len (λ u. returned R f u []) 0 n in
    let taken_long : length (take n V) ≡ n = length-take-le n V (omega arith) in
    record {
      one_each = long;
      leaves = same-places (take n V) (mapped R n f) (taken_long ∙ sym mapped_long) (λ u v is.
          let within : u < length (take n V) = slice_get_within (take n V) u v is in
          let below : u < n = omega arith in
          let there : slice_get nodes u ≡ Some (lone f) = get-before (map_nodes n f) rest u (omega arith) ∙ copy-there n (lone f) u below in
          made-there (λ k. returned R f k []) n u below ∙ (sym (fit.each u (lone f) there) ∙ take-of V n u v is));
      inners = λ j below.
          let u : ℕ = n + j in
          let there : slice_get nodes u ≡ Some (inner n g j) = get-after (map_nodes n f) rest u j (omega arith) ∙ made-there (inner n g) (inner_count n) j below in
          let less : taken_count n j ≤ n + j - 16 * j = min-le_right 16 (n + j - 16 * j) in
          fit.each u (inner n g j) there ∙ ap (λ vs. Some (returned R g u vs)) (values-between V (16 * j) (taken_count n j) (omega arith));
    }

pub HasFunctions-reduction : (n f g count : ℕ) (R : Functions) → IsFunction f count R → IsFunction g count R → HasFunctions (reduction_nodes n f g) count R
HasFunctions-reduction n f g count R leaf node u m is = by (place-of n f g u m is)
  where
    by : IsPlace n f g u m → IsFunction m.function count R
    by (inl a) = subst (λ (k : Node). IsFunction k.function count R) a.1 leaf
    by (inr b) = subst (λ (k : Node). IsFunction k.function count R) b.3 node
