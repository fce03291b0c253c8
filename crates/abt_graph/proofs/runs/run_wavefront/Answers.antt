use Rattle.std.proofs.Common.{◌≡◌, ◌∙◌, List, ap, subst, sym}
use Rattle.abt_graph.specs.Graphs.{HasFunctions, values_of}
use Rattle.abt_graph.specs.Shapes.{IsWavefront, wavefront_nodes}
use Rattle.abt_graph.specs.declared.nodes.Node.{Node}
use Rattle.abt_graph.proofs.Answering.{answers-then}
use Rattle.abt_graph.proofs.Waving.{HasFunctions-wavefront, IsWavefront-values}
use Rattle.abt_graph.proofs.runs.run_wavefront.Goals as goal

pub run_graph-requires-clause-functions : goal.run_graph-requires-clause-functions
run_graph-requires-clause-functions g c = λ lifetimes outlive.
    subst (λ ns. HasFunctions ns (g.W.Work.count c.args.work.now) (g.W.Work.returns c.args.work.now)) (sym (c.deref.ensures.value ∙ c.in_ok-nodes.ensures.nodes))
    (HasFunctions-wavefront c.args.rows c.args.columns c.args.function (g.W.Work.count c.args.work.now) (g.W.Work.returns c.args.work.now) c.requires.function)

pub returns : goal.returns
returns g c =
    let R = g.W.Work.returns c.args.work.now in
    let nodes : c.deref.result.now ≡ wavefront_nodes c.args.rows c.args.columns c.args.function = c.deref.ensures.value ∙ c.in_ok-nodes.ensures.nodes in
    answers-then c.run_graph.result (λ values. values ≡ values_of R c.deref.result.now) (IsWavefront R c.args.rows c.args.columns c.args.function)
    (λ values is. subst (IsWavefront R c.args.rows c.args.columns c.args.function) (sym (is ∙ ap (values_of R) nodes))
    (IsWavefront-values R c.args.rows c.args.columns c.args.function c.requires.few c.requires.function.callable)) c.run_graph.ensures
