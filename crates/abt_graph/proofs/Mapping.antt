-- Graphs whose nodes wait for none.
use Rattle.std.proofs.Common.{◌≡◌, ℕ, ◌*◌, ◌<◌, ◌≤◌, List, [], length, sym, ◌∙◌, subst, arith, lit≤}
use Rattle.std.proofs.lemmas.List.{length-replicate}
use Rattle.std.proofs.lemmas.List.Elements.{All-nil}
use Rattle.std.proofs.lemmas.List.Folds.{sum_by-replicate}
use Rattle.std.proofs.lemmas.List.FromFn.{length-map-range_with_len}
use Rattle.std.proofs.lemmas.Option.{slice_get_within}
use Rattle.std.specs.Prelude.{sum_by}
use Rattle.abt_machine.specs.declared.grammar.Format.TheVariants as format
use Rattle.abt_machine.specs.declared.numbers.UnitNo.{UnitNo}
use Rattle.abt_machine.specs.Limits.{function_limit, unit_limit}
use Rattle.abt_flow.specs.Flow.{Functions}
use Rattle.abt_graph.specs.Graphs.{AreValues, HasFunctions, IsFunction, IsGraph, IsNode, op_count, returned, values_of}
use Rattle.abt_graph.specs.Shapes.{lone, map_nodes, mapped}
use Rattle.abt_graph.specs.declared.nodes.Node.{Node}
use Rattle.abt_graph.proofs.Lists.{same-places}
use Rattle.abt_graph.proofs.Shaping.{copy-at, copy-there, made-there}
use Rattle.abt_graph.proofs.Values.{values-fit}

pub lone-is-node : (u f : ℕ) → f < function_limit → IsNode u (lone f)
lone-is-node u f below = record { function = below; few = lit≤ tt; earlier = All-nil (λ (x : UnitNo). x.0 < u) }

pub IsGraph-map : (n f : ℕ) → n ≤ unit_limit format.Three → f < function_limit → IsGraph (map_nodes n f)
IsGraph-map n f few below =
    let long : length (map_nodes n f) ≡ n = length-replicate n (lone f) in
    let ops : sum_by op_count (map_nodes n f) ≡ n * 4 = sum_by-replicate op_count n (lone f) in
    record {
      few = omega arith;
      few_ops = omega arith;
      each = λ u node is. subst (IsNode u) (copy-at n (lone f) u node is) (lone-is-node u f below);
    }

pub map-values : (R : Functions) (n f : ℕ) → n ≤ unit_limit format.Three → f < function_limit → values_of R (map_nodes n f) ≡ mapped R n f
map-values R n f few below =
    let V : List ℕ = values_of R (map_nodes n f) in
    let fit : AreValues R (map_nodes n f) V = values-fit R (map_nodes n f) (IsGraph-map n f few below) in
    let long : length V ≡ n = fit.one_each ∙ length-replicate n (lone f) in
    let made : length (mapped R n f) ≡ n = length-map-range_with_len (λ u. returned R f u []) 0 n in
    sym (same-places (mapped R n f) V (made ∙ sym long) (λ u v is.
    let within : u < length (mapped R n f) = slice_get_within (mapped R n f) u v is in
    let below_n : u < n = omega arith in
    fit.each u (lone f) (copy-there n (lone f) u below_n) ∙ (sym (made-there (λ k. returned R f k []) n u below_n) ∙ is)))

pub HasFunctions-map : (n f count : ℕ) (R : Functions) → IsFunction f count R → HasFunctions (map_nodes n f) count R
HasFunctions-map n f count R is u node here = subst (λ (m : Node). IsFunction m.function count R) (copy-at n (lone f) u node here) is
