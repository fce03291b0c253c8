-- Graphs are orderly: each run of one finishes.
use Rattle.std.proofs.Common.{◌≡◌, ◌<◌, ◌≤◌, ◌+◌, ◌*◌, ℕ, zero, suc, List, [], ◌∷◌, ◌++◌, Option, Some, None, length, get_or, slice_get, refl, sym, ◌∙◌, ap, subst, arith, length-append, zero-add}
use Rattle.std.specs.Prelude.{◌%◌, ⊤, Contains, IsSome, min, option_map, sum_by, take}
use Rattle.std.specs.List.{range_with_len}
use Rattle.std.proofs.Math.Nat.{le-min, mod-eq_of_lt}
use Rattle.std.proofs.lemmas.List.Elements.{Contains-get_or}
use Rattle.std.proofs.lemmas.List.FromFn.{get_or-map-range_with_len, length-map-range_with_len}
use Rattle.std.proofs.lemmas.Nat.{mod_below}
use Rattle.std.proofs.lemmas.List.{take_all}
use Rattle.std.proofs.lemmas.List.Sums.{sum_by_more, sum_by_push}
use Rattle.std.proofs.lemmas.Option.{get_or_from_slice_get, slice_get_within}
use Rattle.abt_machine.specs.declared.numbers.ObjectNo.{ObjectNo}
use Rattle.abt_machine.specs.declared.numbers.UnitNo.{UnitNo}
use Rattle.abt_machine.specs.declared.operations.Op.{Op}
use Rattle.abt_machine.specs.declared.operations.Op.TheVariants as op
use Rattle.abt_machine.specs.declared.workload.Parts.{Parts}
use Rattle.abt_machine.specs.declared.grammar.Format.TheVariants as format
use Rattle.abt_machine.specs.Limits.{listed_limit, operation_limit}
use Rattle.abt_machine.specs.Lives.{count_up}
use Rattle.abt_machine.specs.Numbers.{object_no}
use Rattle.abt_machine.specs.Workloads.{main_of, op_at, pools_of, start_from, start_of}
use Rattle.abt_bounds.specs.Laws.{ops_in, ops_of_unit}
use Rattle.abt_flow.specs.Finishing.{IsListed, IsOrderly, IsRanked}
use Rattle.abt_flow.specs.Flow.{IsReached, Starts}
use Rattle.abt_generate.proofs.Lists.{Each, each-always, each-at, none-some, some-same}
use Rattle.abt_graph.specs.Graphs.{IsGraph, IsNode, op_count}
use Rattle.abt_graph.specs.Workloads.{fetch_ops, node_ops, node_unit, pool_listed, pools_listed, workload_of}
use Rattle.abt_graph.specs.declared.nodes.Node.{Node}
use Rattle.abt_graph.proofs.Confluence.{Confluent-graph, creates-none}
use Rattle.abt_graph.proofs.GraphOps.{length-fetch_ops, length-node_ops, length-units}
use Rattle.abt_graph.proofs.GraphParts.{main-graph, pools-graph}
use Rattle.abt_graph.proofs.Lists.{all-each}
use Rattle.abt_graph.proofs.Units.{each-op, first_ops, op-of-node, ops-at, ops-end-in-set, unit-at}

-- what an operation of unit u waits for: eventuals of units before it, and nothing else
abbrev WaitsBefore : ℕ → Op → Type 0
WaitsBefore u (op.EvWait x) = x.0 < u
WaitsBefore u (op.BarWait x) = ⊥
WaitsBefore u (op.Join v) = ⊥
WaitsBefore u _ = ⊤

-- operations are ranked unit by unit, none of which has more than 36
abbrev rank_of : ℕ → ℕ → ℕ
rank_of u k = 37 * u + k

behind : {A : Type 0} (xs : List A) (y : A) → slice_get (xs ++ y ∷ []) (length xs) ≡ Some y
behind [] y = refl
behind (x ∷ xs) y = behind xs y

some-node : (nodes : List Node) (x : ℕ) → x < length nodes → (node : Node) × (slice_get nodes x ≡ Some node)
some-node [] x l = absurd (omega arith)
some-node (node ∷ nodes) zero l = (node, refl)
some-node (node ∷ nodes) (suc x) l = some-node nodes x (omega arith)

module _ (streams : ℕ) (nodes : List Node) (some : 0 < streams) (graph : IsGraph nodes) where
  waits-before : (u k : ℕ) (o : Op) → op_at (workload_of streams nodes) u k ≡ Some o → WaitsBefore u o
  waits-before u k o is =
      let found = op-of-node streams nodes u k o is in
      let node : IsNode u found.0 = graph.each u found.0 found.1 in
      let P : Op → Type 0 = WaitsBefore u in
      each-at P (node_ops u found.0)
      (each-op P u found.0 (all-each (λ (x : UnitNo). P (op.EvWait (object_no x.0))) found.0.after (λ i d within. node.earlier i d within)) (λ j below. tt) tt tt tt tt) k o found.2

  -- Operations.

  first-ops : (n : ℕ) → n ≤ length nodes → sum_by (ops_of_unit (workload_of streams nodes)) (count_up n) ≡ sum_by op_count (take n nodes)
  first-ops zero l = refl
  first-ops (suc n) l =
      let found = some-node nodes n (omega arith) in
      let here : ops_of_unit (workload_of streams nodes) n ≡ op_count found.0 = ap length (ops-at streams nodes n found.0 found.1) ∙ length-node_ops n found.0 in
      let before : sum_by (ops_of_unit (workload_of streams nodes)) (count_up n) ≡ sum_by op_count (take n nodes) = first-ops n (omega arith) in
      let long = sum_by_push (ops_of_unit (workload_of streams nodes)) (count_up n) n in
      let more : sum_by op_count (take (n + 1) nodes) ≡ sum_by op_count (take n nodes) + op_count (get_or nodes n found.0) = sum_by_more op_count nodes n found.0 (omega arith) in
      let there : op_count (get_or nodes n found.0) ≡ op_count found.0 = ap op_count (get_or_from_slice_get nodes n found.0 found.0 found.1) in
      let step : sum_by op_count (take (suc n) nodes) ≡ sum_by op_count (take (n + 1) nodes) = ap (λ k. sum_by op_count (take k nodes)) (let e : suc n ≡ n + 1 = omega arith in e) in
      omega arith

  units-are : length (workload_of streams nodes).units ≡ length nodes
  unfolding workload_of
  units-are = length-units streams nodes

  -- there are no more of them than a workload may have
  pub ops-few : ops_in (workload_of streams nodes) ≤ operation_limit format.Three
  ops-few =
      let units : length (workload_of streams nodes).units ≡ length nodes = units-are in
      let all : sum_by (ops_of_unit (workload_of streams nodes)) (count_up (length nodes)) ≡ sum_by op_count (take (length nodes) nodes) = first-ops (length nodes) (omega arith) in
      let whole : sum_by op_count (take (length nodes) nodes) ≡ sum_by op_count nodes = ap (sum_by op_count) (take_all (length nodes) nodes (omega arith)) in
      let same : ops_in (workload_of streams nodes) ≡ sum_by (ops_of_unit (workload_of streams nodes)) (count_up (length nodes)) = ap (λ n. sum_by (ops_of_unit (workload_of streams nodes)) (count_up n)) units in
      let few : sum_by op_count nodes ≤ operation_limit format.Three = graph.few_ops in
      omega arith

  -- Reached units.

  starts-at : (u : ℕ) (node : Node) → slice_get nodes u ≡ Some node → start_of (workload_of streams nodes) u ≡ Some (u % streams)
  starts-at u node is = ap start_from (unit-at streams nodes u ∙ ap (option_map (node_unit streams u)) is)

  start-is : (u p : ℕ) (found : Option Node) → start_from (option_map (node_unit streams u) found) ≡ Some p → u % streams ≡ p
  start-is u p None is = absurd (none-some is)
  start-is u p (Some node) is = some-same is

  is-stream : (s : ℕ) → s < streams → s < (workload_of streams nodes).streams
  unfolding workload_of
  is-stream s l = l

  -- each stream lists its own pool
  listed : (s : ℕ) → s < streams → IsListed (workload_of streams nodes) s
  listed s stream =
      let long : length (pools_listed streams s) ≡ min streams listed_limit = length-map-range_with_len (pool_listed streams s) 0 (min streams listed_limit) in
      let few : 1 ≤ min streams listed_limit = le-min {k = 1} {a = streams} {b = listed_limit} (omega arith) (omega arith) in
      let first : get_or (pools_listed streams s) 0 0 ≡ (s + 0) % streams = get_or-map-range_with_len (pool_listed streams s) 0 (min streams listed_limit) 0 0 0 (omega arith) (zero-add 0) in
      let own : (s + 0) % streams ≡ s = ap (λ n. n % streams) (let e : s + 0 ≡ s = omega arith in e) ∙ mod-eq_of_lt stream in
      let contains : Contains (pools_listed streams s) s = subst (Contains (pools_listed streams s)) (first ∙ own) (Contains-get_or (pools_listed streams s) 0 0 (omega arith)) in
      (s, is-stream s stream, subst (λ ps. Contains ps s) (sym (ap (pools_of (workload_of streams nodes)) (main-graph streams nodes s stream) ∙ pools-graph streams nodes s stream)) contains)

  starts-listed : (u p : ℕ) → start_of (workload_of streams nodes) u ≡ Some p → IsListed (workload_of streams nodes) p
  starts-listed u p is =
      let same : u % streams ≡ p = start-is u p (slice_get nodes u) (sym (ap start_from (unit-at streams nodes u)) ∙ is) in
      listed p (subst (λ q. q < streams) same (mod_below u streams some))

  -- Waits.

  set-of : (x : ℕ) → x < length nodes → (j : ℕ) × IsReached (workload_of streams nodes) x × (op_at (workload_of streams nodes) x j ≡ Some (op.EvSet (object_no x))) × (j ≤ 35)
  set-of x l =
      let found = some-node nodes x l in
      let node : Node = found.0 in
      let few : length node.after ≤ 16 = (graph.each x node found.1).few in
      let count : length (first_ops node) ≤ 35 = first-few node few in (
        length (first_ops node),
        Starts x (x % streams) (starts-at x node found.1),
        ap (λ ops. slice_get ops (length (first_ops node))) (ops-at streams nodes x node found.1 ∙ ops-end-in-set x node) ∙ behind (first_ops node) (op.EvSet (object_no x)),
        count,
      )
    where
      first-few : (node : Node) → length node.after ≤ 16 → length (first_ops node) ≤ 35
      first-few node few =
          let fetches : length (fetch_ops 0 node.after) ≡ 2 * length node.after = length-fetch_ops 0 node.after in
          let all : length (first_ops node) ≡ length (fetch_ops 0 node.after) + 3 = length-append (fetch_ops 0 node.after) (op.Set (length node.after) ∷ op.Call node.function ∷ op.Print ∷ []) in
          omega arith

  waits : (u k : ℕ) (x : ObjectNo) → op_at (workload_of streams nodes) u k ≡ Some (op.EvWait x) →
      (v : ℕ) × (j : ℕ) × IsReached (workload_of streams nodes) v × (op_at (workload_of streams nodes) v j ≡ Some (op.EvSet x)) × (rank_of v j < rank_of u k)
  waits u k x is =
      let before : x.0 < u = waits-before u k (op.EvWait x) is in
      let there : u < length nodes = (let found = op-of-node streams nodes u k (op.EvWait x) is in slice_get_within nodes u found.0 found.1) in
      let set = set-of x.0 (omega arith) in
      let few : set.0 ≤ 35 = set.3 in
      (x.0, set.0, set.1, set.2, omega arith)

  pub IsOrderly-graph : IsOrderly (workload_of streams nodes)
  IsOrderly-graph = record {
    confluent = Confluent-graph streams nodes;
    starts = starts-listed;
    created = λ u k t p is. absurd (creates-none streams nodes u k t p is);
    no_barrier = λ u k x is. waits-before u k (op.BarWait x) is;
    rank = rank_of;
    ranked = record {
      rises = λ u k l. omega arith;
      creates = λ u k t p is. absurd (creates-none streams nodes u k t p is);
      waits = waits;
      joins = λ u k v is. absurd (waits-before u k (op.Join v) is);
    };
  }
