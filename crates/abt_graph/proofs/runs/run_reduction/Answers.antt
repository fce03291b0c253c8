use Rattle.std.proofs.Common.{◌≡◌, ◌∙◌, List, ap, subst, sym}
use Rattle.abt_graph.specs.Graphs.{HasFunctions, values_of}
use Rattle.abt_graph.specs.Shapes.{IsReduction, reduction_nodes}
use Rattle.abt_graph.specs.declared.nodes.Node.{Node}
use Rattle.abt_graph.proofs.Answering.{answers-then}
use Rattle.abt_graph.proofs.Reducing.{HasFunctions-reduction, IsReduction-values}
use Rattle.abt_graph.proofs.runs.run_reduction.Goals as goal

pub run_graph-requires-clause-functions : goal.run_graph-requires-clause-functions
run_graph-requires-clause-functions g c = λ lifetimes outlive.
    subst (λ ns. HasFunctions ns (g.W.Work.count c.args.work.now) (g.W.Work.returns c.args.work.now)) (sym (c.deref.ensures.value ∙ c.in_ok-nodes.ensures.nodes))
    (HasFunctions-reduction c.args.n c.args.leaf_function c.args.inner_function (g.W.Work.count c.args.work.now) (g.W.Work.returns c.args.work.now) c.requires.leaf c.requires.inner)

pub returns : goal.returns
returns g c =
    let R = g.W.Work.returns c.args.work.now in
    let nodes : c.deref.result.now ≡ reduction_nodes c.args.n c.args.leaf_function c.args.inner_function = c.deref.ensures.value ∙ c.in_ok-nodes.ensures.nodes in
    answers-then c.run_graph.result (λ values. values ≡ values_of R c.deref.result.now) (IsReduction R c.args.n c.args.leaf_function c.args.inner_function)
    (λ values is. subst (IsReduction R c.args.n c.args.leaf_function c.args.inner_function) (sym (is ∙ ap (values_of R) nodes))
    (IsReduction-values R c.args.n c.args.leaf_function c.args.inner_function c.requires.few c.requires.leaf.callable c.requires.inner.callable)) c.run_graph.ensures
