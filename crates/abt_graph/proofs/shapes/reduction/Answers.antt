use Rattle.std.proofs.Common.{◌≡◌, ◌∙◌, ◌++◌, ap, arith, map, subst, sym}
use Rattle.std.specs.List.{range_with_len}
use Rattle.abt_graph.specs.Graphs.{IsGraph}
use Rattle.abt_graph.specs.Shapes.{inner, inner_count, map_nodes, reduction_nodes}
use Rattle.abt_graph.proofs.Loops.{behind-more}
use Rattle.abt_graph.proofs.Reducing.{IsGraph-reduction}
use Rattle.abt_graph.proofs.shapes.reduction.Goals as goal

pub loop-j-preserved : goal.loop-j-preserved
loop-j-preserved c = behind-more (map_nodes c.args.n c.args.leaf_function) (inner c.args.n c.args.inner_function) c.loop-j.nodes.items c.push.new.self.items c.loop-j.j c.in_ok-inner_node.field-0 c.loop-j.invariant c.in_ok-push.ensures.items c.in_ok-inner_node.ensures

pub returns-clause-graph : goal.returns-clause-graph
returns-clause-graph c =
    let all : c.loop-j.j ≡ inner_count c.args.n = omega arith in
    let same : c.loop-j.nodes.items ≡ reduction_nodes c.args.n c.args.leaf_function c.args.inner_function =
    c.loop-j.invariant ∙ ap (λ k. map_nodes c.args.n c.args.leaf_function ++ map (inner c.args.n c.args.inner_function) (range_with_len 0 k)) all in
    subst IsGraph (sym same) (IsGraph-reduction c.args.n c.args.leaf_function c.args.inner_function c.requires.few c.requires.leaf c.requires.inner)
