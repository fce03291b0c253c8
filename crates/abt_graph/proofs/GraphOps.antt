-- How many operations the units of a graph have.
use Rattle.std.proofs.Common.{◌≡◌, ℕ, suc, ◌+◌, ◌*◌, List, [], ◌∷◌, length, map, refl, sym, ◌∙◌, ap, arith, length-append}
use Rattle.std.specs.Prelude.{flat_map, sum_by}
use Rattle.std.specs.List.{enumerate_from}
use Rattle.std.proofs.lemmas.List.{length-map}
use Rattle.std.proofs.lemmas.List.FromFn.{length-enumerate_from}
use Rattle.std.proofs.lemmas.List.Sums.{sum_by-cons}
use Rattle.abt_machine.specs.declared.numbers.UnitNo.{UnitNo}
use Rattle.abt_machine.specs.declared.operations.Op.TheVariants as op
use Rattle.abt_machine.specs.declared.workload.UnitPart.{UnitPart}
use Rattle.abt_machine.specs.Numbers.{object_no}
use Rattle.abt_machine.specs.Words.{numbered}
use Rattle.abt_machine.specs.Workloads.{all_ops, ops_of}
use Rattle.abt_graph.specs.Graphs.{op_count}
use Rattle.abt_graph.specs.Workloads.{fetch_ops, node_ops, node_unit}
use Rattle.abt_graph.specs.declared.nodes.Node.{Node}

pub length-units : (streams : ℕ) (nodes : List Node) → length (numbered (node_unit streams) nodes) ≡ length nodes
length-units streams nodes = length-map (enumerate_from 0 nodes) (λ p. node_unit streams p.0 p.1) ∙ length-enumerate_from 0 nodes

pub length-fetch_ops : (k : ℕ) (after : List UnitNo) → length (fetch_ops k after) ≡ 2 * length after
length-fetch_ops k [] = refl
length-fetch_ops k (x ∷ after) = let rest : length (fetch_ops (suc k) after) ≡ 2 * length after = length-fetch_ops (suc k) after in omega arith

pub length-node_ops : (u : ℕ) (node : Node) → length (node_ops u node) ≡ op_count node
length-node_ops u node =
    let fetches : length (fetch_ops 0 node.after) ≡ 2 * length node.after = length-fetch_ops 0 node.after in
    let all : length (node_ops u node) ≡ length (fetch_ops 0 node.after) + 4 = length-append (fetch_ops 0 node.after) (op.Set (length node.after) ∷ op.Call node.function ∷ op.Print ∷ op.EvSet (object_no u) ∷ []) in
    omega arith

ops-from : (streams n : ℕ) (nodes : List Node) → length (flat_map (λ (part : UnitPart). ops_of part.body) (map (λ p. node_unit streams p.0 p.1) (enumerate_from n nodes))) ≡ sum_by op_count nodes
ops-from streams n [] = refl
ops-from streams n (node ∷ nodes) =
    let units : List UnitPart = map (λ p. node_unit streams p.0 p.1) (enumerate_from (n + 1) nodes) in
    length-append (node_ops n node) (flat_map (λ (part : UnitPart). ops_of part.body) units) ∙
    (ap (λ k. k + length (flat_map (λ (part : UnitPart). ops_of part.body) units)) (length-node_ops n node) ∙
    (ap (λ k. op_count node + k) (ops-from streams (n + 1) nodes) ∙ sym (sum_by-cons op_count node nodes)))

pub length-all_ops : (streams : ℕ) (nodes : List Node) → length (all_ops (numbered (node_unit streams) nodes)) ≡ sum_by op_count nodes
length-all_ops streams nodes = ops-from streams 0 nodes
