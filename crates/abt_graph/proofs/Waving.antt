-- Tables of cells that wait for their neighbours.
use Rattle.std.proofs.Common.{◌≡◌, ℕ, zero, suc, ◌+◌, ◌*◌, ◌<◌, ◌≤◌, List, [], ◌++◌, Some, length, slice_get, refl, ◌∙◌, ap, subst, arith, lit≤}
use Rattle.std.specs.Prelude.{◌/◌, ◌%◌, All, slice_index, sum_by}
use Rattle.std.proofs.Math.Nat.{mod-add-div', mul-le-mul_right}
use Rattle.std.proofs.lemmas.List.Elements.{All-append, All-cons, All-nil}
use Rattle.std.proofs.lemmas.List.FromFn.{length-map-range_with_len}
use Rattle.std.proofs.lemmas.Nat.{div-mul-add, mod-mul-add}
use Rattle.std.proofs.lemmas.Option.{get_or_from_slice_get}
use Rattle.abt_machine.specs.declared.grammar.Format.TheVariants as format
use Rattle.abt_machine.specs.declared.numbers.UnitNo.{UnitNo}
use Rattle.abt_machine.specs.Limits.{function_limit, unit_limit}
use Rattle.abt_machine.specs.Numbers.{unit_no}
use Rattle.abt_flow.specs.Flow.{Functions}
use Rattle.abt_graph.specs.Graphs.{AreValues, HasFunctions, IsFunction, IsGraph, IsNode, op_count, returned, value_of, values_at, values_of}
use Rattle.abt_graph.specs.Shapes.{IsWavefront, cell, cell_at, cell_of, left, neighbours, upper, wavefront_nodes}
use Rattle.abt_graph.specs.declared.nodes.Node.{Node}
use Rattle.abt_graph.proofs.Shaping.{made-at, made-there, sum_by-most}
use Rattle.abt_graph.proofs.Values.{values-fit}

-- Cells are nodes.

abbrev IsBefore : ℕ → UnitNo → Type 0
IsBefore u x = x.0 < u

left-before : (columns i j u : ℕ) → u ≡ i * columns + j → All (IsBefore u) (left columns i j)
left-before columns i zero u at = All-nil (IsBefore u)
left-before columns i (suc j) u at = All-cons (IsBefore u) (unit_no (i * columns + j)) [] (omega arith) (All-nil (IsBefore u))

upper-before : (columns i j u : ℕ) → 0 < columns → u ≡ i * columns + j → All (IsBefore u) (upper columns i j)
upper-before columns zero j u some at = All-nil (IsBefore u)
upper-before columns (suc i) j u some at =
    let more : suc i * columns ≡ i * columns + columns = omega arith in
    All-cons (IsBefore u) (unit_no (i * columns + j)) [] (omega arith) (All-nil (IsBefore u))

neighbours-few : (columns i j : ℕ) → length (left columns i j ++ upper columns i j) ≤ 2
neighbours-few columns zero zero = lit≤ tt
neighbours-few columns zero (suc j) = lit≤ tt
neighbours-few columns (suc i) zero = lit≤ tt
neighbours-few columns (suc i) (suc j) = lit≤ tt

cell-is-node : (columns f i j u : ℕ) → 0 < columns → f < function_limit → u ≡ i * columns + j → IsNode u (cell columns f i j)
cell-is-node columns f i j u some below at =
    let few : length (left columns i j ++ upper columns i j) ≤ 2 = neighbours-few columns i j in
    record {
      function = below;
      few = omega arith;
      earlier = All-append (IsBefore u) (left columns i j) (upper columns i j) (left-before columns i j u at) (upper-before columns i j u some at);
    }

some-column : (rows columns u : ℕ) → u < rows * columns → 0 < columns
some-column rows zero u below = absurd (let none : rows * 0 ≡ 0 = omega arith in omega arith)
some-column rows (suc columns) u below = omega arith

pub IsGraph-wavefront : (rows columns f : ℕ) → rows * columns ≤ unit_limit format.Three → f < function_limit → IsGraph (wavefront_nodes rows columns f)
IsGraph-wavefront rows columns f few below =
    let nodes : List Node = wavefront_nodes rows columns f in
    let long : length nodes ≡ rows * columns = length-map-range_with_len (cell_of columns f) 0 (rows * columns) in
    let ops : sum_by op_count nodes ≤ length nodes * 8 = sum_by-most op_count 8 nodes (λ u node is.
    let at = made-at (cell_of columns f) (rows * columns) u node is in
    subst (λ (n : Node). op_count n ≤ 8) at.1 (let two : length (left columns (u / columns) (u % columns) ++ upper columns (u / columns) (u % columns)) ≤ 2 = neighbours-few columns (u / columns) (u % columns) in omega arith)) in
    record {
      few = omega arith;
      few_ops = omega arith;
      each = λ u node is.
          let at = made-at (cell_of columns f) (rows * columns) u node is in
          let parts : u % columns + u / columns * columns ≡ u = mod-add-div' u columns in
          subst (IsNode u) at.1 (cell-is-node columns f (u / columns) (u % columns) u (some-column rows columns u at.0) below (omega arith));
    }

-- The values of cells.

neighbours-are : (columns : ℕ) (values : List ℕ) (i j : ℕ) → values_at values (left columns i j ++ upper columns i j) ≡ neighbours (cell_at columns values) i j
neighbours-are columns values zero zero = refl
neighbours-are columns values zero (suc j) = refl
neighbours-are columns values (suc i) zero = refl
neighbours-are columns values (suc i) (suc j) = refl

pub number-within : (rows columns i j : ℕ) → i < rows → j < columns → i * columns + j < rows * columns
number-within rows columns i j row column =
    let all : suc i * columns ≤ rows * columns = mul-le-mul_right {m = suc i} {n = rows} columns (omega arith) in
    let more : suc i * columns ≡ i * columns + columns = omega arith in
    omega arith

pub IsWavefront-values : (R : Functions) (rows columns f : ℕ) → rows * columns ≤ unit_limit format.Three → f < function_limit → IsWavefront R rows columns f (values_of R (wavefront_nodes rows columns f))
IsWavefront-values R rows columns f few below =
    let nodes : List Node = wavefront_nodes rows columns f in
    let V : List ℕ = values_of R nodes in
    let fit : AreValues R nodes V = values-fit R nodes (IsGraph-wavefront rows columns f few below) in
    record {
      one_each = fit.one_each ∙ length-map-range_with_len (cell_of columns f) 0 (rows * columns);
      cells = λ i j row column.
          let u : ℕ = i * columns + j in
          let within : u < rows * columns = number-within rows columns i j row column in
          let there : slice_get nodes u ≡ Some (cell_of columns f u) = made-there (cell_of columns f) (rows * columns) u within in
          let same : cell_of columns f u ≡ cell columns f i j = ap (λ a. cell columns f a (u % columns)) (div-mul-add i columns j column) ∙ ap (cell columns f i) (mod-mul-add i columns j column) in
          let value : slice_index V u ≡ value_of R u (cell columns f i j) V =
          get_or_from_slice_get V u (value_of R u (cell_of columns f u) V) 0 (fit.each u (cell_of columns f u) there) ∙ ap (λ (n : Node). value_of R u n V) same in
          value ∙ ap (returned R f u) (neighbours-are columns V i j);
    }

pub HasFunctions-wavefront : (rows columns f count : ℕ) (R : Functions) → IsFunction f count R → HasFunctions (wavefront_nodes rows columns f) count R
HasFunctions-wavefront rows columns f count R is u node here =
    let at = made-at (cell_of columns f) (rows * columns) u node here in
    subst (λ (m : Node). IsFunction m.function count R) at.1 is
