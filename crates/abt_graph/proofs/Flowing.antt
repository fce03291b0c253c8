-- What the units of a graph put out.
use Rattle.std.proofs.Common.{◌≡◌, ℕ, zero, suc, ◌<◌, ◌≤◌, List, [], ◌∷◌, ◌++◌, Some, length, replicate, take, get_or, slice_get, refl, sym, ◌∙◌, ap, subst, arith, inl, inr}
use Rattle.std.specs.Prelude.{◌%◌, option_map, slice_index}
use Rattle.std.proofs.lemmas.List.{length-map, take_all, take_at}
use Rattle.std.proofs.lemmas.Option.{get_or_from_slice_get, slice_get-get_or, slice_get_within}
use Rattle.abt_machine.specs.declared.events.Piece.{Piece}
use Rattle.abt_machine.specs.declared.events.Piece.TheVariants as piece
use Rattle.abt_machine.specs.declared.numbers.UnitNo.{UnitNo}
use Rattle.abt_machine.specs.declared.operations.Op.{Op}
use Rattle.abt_machine.specs.declared.operations.Op.TheVariants as op
use Rattle.abt_machine.specs.declared.workload.Parts.{Parts}
use Rattle.abt_machine.specs.Limits.{key_limit}
use Rattle.abt_machine.specs.Numbers.{object_no}
use Rattle.abt_machine.specs.Workloads.{body_at, ops_of, start_from}
use Rattle.abt_bounds.specs.Laws.{ops_in}
use Rattle.abt_flow.specs.Effects.{Memory, fresh}
use Rattle.abt_flow.specs.Flow.{AtPoint, Functions, IsFlow, IsRow, PutsOut, SetsTo, Starts}
use Rattle.abt_graph.specs.Graphs.{AreValues, IsGraph, keys_of, returned, value_of, values_at, values_of}
use Rattle.abt_graph.specs.Rows.{number_rows}
use Rattle.abt_graph.specs.Workloads.{fetch_ops, node_ops, node_unit, workload_of}
use Rattle.abt_graph.specs.declared.nodes.Node.{Node}
use Rattle.abt_graph.proofs.Confluence.{set-by-its-node}
use Rattle.abt_graph.proofs.Fetching.{AreFound, Passes, made-passes, passes-node, word_set}
use Rattle.abt_graph.proofs.GraphOps.{length-units}
use Rattle.abt_graph.proofs.Lists.{mapped-here, same-places}
use Rattle.abt_graph.proofs.Units.{first_ops, no_node, ops-at, ops-end-in-set, unit-at}
use Rattle.abt_graph.proofs.Values.{values-fit}

-- values that are found are values of the graph, if each is
found-values : (Found : ℕ → ℕ → Type 0) (values : List ℕ) → ((x n : ℕ) → Found x n → n ≡ slice_index values x) → (after : List UnitNo) (vs : List ℕ) → AreFound Found after vs → vs ≡ values_at values after
found-values Found values holds [] [] are = refl
found-values Found values holds [] (v ∷ vs) are = absurd are
found-values Found values holds (x ∷ after) [] are = absurd are
found-values Found values holds (x ∷ after) (v ∷ vs) are =
    ap (λ w. w ∷ vs) (holds x.0 v are.0) ∙ ap (λ ws. slice_index values x.0 ∷ ws) (found-values Found values holds after vs are.1)

module _ (streams : ℕ) (nodes : List Node) (graph : IsGraph nodes) (R : Functions) where
  abbrev W : Parts
  W = workload_of streams nodes

  abbrev V : List ℕ
  V = values_of R nodes

  graph-units : length W.units ≡ length nodes
  unfolding workload_of
  graph-units = length-units streams nodes

  starts-empty : fresh W ≡ record { acc = 0; keys = replicate key_limit 0; output = [] }
  unfolding workload_of
  starts-empty = refl

  -- the value of a node is what its function returns for the values that it waits for
  value-made : (u : ℕ) (node : Node) → slice_get nodes u ≡ Some node → value_of R u node V ≡ slice_index V u
  value-made u node is =
      let fit : AreValues R nodes V = values-fit R nodes graph in
      sym (get_or_from_slice_get V u (value_of R u node V) 0 (fit.each u node is))

  -- what a node has found leads to its value
  node-passes : (u : ℕ) (Found : ℕ → ℕ → Type 0) → ((x n : ℕ) → Found x n → n ≡ slice_index V x) → (node : Node) (rest : List Op) (m : Memory) → slice_get nodes u ≡ Some node →
      Passes R u Found (fetch_ops 0 node.after ++ op.Set (length node.after) ∷ op.Call node.function ∷ op.Print ∷ rest) (fresh W) m →
      (keys : List ℕ) × Passes R u Found rest (word_set (slice_index V u) keys) m
  node-passes u Found holds node rest m is passes =
      let few : length node.after ≤ key_limit = (graph.each u node is).few in
      let there = passes-node R u Found node rest m few (subst (λ (s : Memory). Passes R u Found (fetch_ops 0 node.after ++ op.Set (length node.after) ∷ op.Call node.function ∷ op.Print ∷ rest) s m) starts-empty passes) in
      let word : returned R node.function u there.0 ≡ slice_index V u =
      ap (returned R node.function u) (found-values Found V holds node.after there.0 there.1) ∙ value-made u node is in
      (keys_of there.0, subst (λ w. Passes R u Found rest (word_set w (keys_of there.0)) m) word there.2)

  -- what an eventual is set to, if acc is known for each node before its last operation
  set-value : (At : ℕ → ℕ → Memory → Type 0) → ((u : ℕ) (node : Node) (m : Memory) → slice_get nodes u ≡ Some node → At u (length (first_ops node)) m → m.acc ≡ slice_index V u) → (x n : ℕ) → SetsTo W At x n → n ≡ slice_index V x
  set-value At known x n sets =
      let by = set-by-its-node streams nodes sets.0 sets.1 (object_no x) sets.4 in
      let point : At sets.0 (length (first_ops by.0)) sets.2 = subst (λ j. At sets.0 j sets.2) by.2 sets.5 in
      sym sets.6 ∙ (known sets.0 by.0 sets.2 by.1 point ∙ ap (slice_index V) by.3)

  -- acc of a node before its last operation
  point-value : (n u : ℕ) (node : Node) (m : Memory) → slice_get nodes u ≡ Some node → AtPoint W R n u (length (first_ops node)) m → m.acc ≡ slice_index V u
  point-value zero u node m is at = absurd at
  point-value (suc n) u node m is at =
      let At : ℕ → ℕ → Memory → Type 0 = λ v j c. AtPoint W R n v j c in
      let Found : ℕ → ℕ → Type 0 = SetsTo W At in
      let ops : ops_of (body_at W u) ≡ first_ops node ++ op.EvSet (object_no u) ∷ [] = ops-at streams nodes u node is ∙ ops-end-in-set u node in
      let first : take (length (first_ops node)) (ops_of (body_at W u)) ≡ first_ops node = ap (take (length (first_ops node))) ops ∙ take_at (first_ops node) (op.EvSet (object_no u) ∷ []) (length (first_ops node)) refl in
      let passes : Passes R u Found (first_ops node) (fresh W) m = subst (λ os. Passes R u Found os (fresh W) m) first (made-passes R u Found W (length (first_ops node)) m at) in
      let there = node-passes u Found (set-value At (λ v c d. point-value n v c d)) node [] m is passes in
      ap (λ (c : Memory). c.acc) there.1

  -- its output at its end
  end-value : (n u : ℕ) (node : Node) (m : Memory) → slice_get nodes u ≡ Some node → AtPoint W R (suc n) u (length (ops_of (body_at W u))) m → m.output ≡ piece.Number (slice_index V u) ∷ []
  end-value n u node m is at =
      let At : ℕ → ℕ → Memory → Type 0 = λ v j c. AtPoint W R n v j c in
      let Found : ℕ → ℕ → Type 0 = SetsTo W At in
      let ops : List Op = ops_of (body_at W u) in
      let all : take (length ops) ops ≡ node_ops u node = take_all (length ops) ops (omega arith) ∙ ops-at streams nodes u node is in
      let passes : Passes R u Found (node_ops u node) (fresh W) m = subst (λ os. Passes R u Found os (fresh W) m) all (made-passes R u Found W (length ops) m at) in
      let there = node-passes u Found (set-value At (λ v c d. point-value n v c d)) node (op.EvSet (object_no u) ∷ []) m is passes in
      ap (λ (c : Memory). c.output) (there.1.2 ∙ there.1.1)

  -- every unit starts, so it has an output
  put-out : (u : ℕ) (node : Node) (row : List Piece) → slice_get nodes u ≡ Some node → IsRow W R u row → PutsOut W R u row
  put-out u node row is (inl put) = put.1
  put-out u node row is (inr none) = absurd (none.0 (Starts u (u % streams) (ap start_from (unit-at streams nodes u ∙ ap (option_map (node_unit streams u)) is))))

  length-values : length V ≡ length nodes
  length-values = (values-fit R nodes graph).one_each

  row-there : (rows : List (List Piece)) (u : ℕ) (row : List Piece) → IsFlow W R rows → slice_get rows u ≡ Some row → slice_get (number_rows V) u ≡ Some row
  row-there rows u row flow here =
      let count : length rows ≡ length nodes = flow.one_each ∙ graph-units in
      let within : u < length rows = slice_get_within rows u row here in
      let node : Node = get_or nodes u no_node in
      let is : slice_get nodes u ≡ Some node = slice_get-get_or nodes u no_node (omega arith) in
      let put : PutsOut W R u row = put-out u node row is (flow.each u row here) in
      let number : row ≡ piece.Number (slice_index V u) ∷ [] = sym put.2 ∙ end-value (ops_in W) u node put.0 is put.1 in
      let value : slice_get V u ≡ Some (slice_index V u) = slice_get-get_or V u 0 (let long = length-values in omega arith) in
      mapped-here (λ n. piece.Number n ∷ []) V u (slice_index V u) value ∙ ap (λ r. Some r) (sym number)

  -- the rows of a flow are the values of the graph
  pub rows-are-values : (rows : List (List Piece)) → IsFlow W R rows → rows ≡ number_rows V
  rows-are-values rows flow =
      let count : length rows ≡ length nodes = flow.one_each ∙ graph-units in
      let numbers : length (number_rows V) ≡ length V = length-map V (λ n. piece.Number n ∷ []) in
      let long : length V ≡ length nodes = length-values in
      same-places rows (number_rows V) (omega arith) (λ u row here. row-there rows u row flow here)
