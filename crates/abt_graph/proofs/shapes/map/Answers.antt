use Rattle.std.proofs.Common.{◌≡◌, ◌∙◌, ◌++◌, ◌∷◌, [], ap, arith, replicate, subst, sym}
use Rattle.abt_graph.specs.Graphs.{IsGraph}
use Rattle.abt_graph.specs.Shapes.{lone, map_nodes}
use Rattle.abt_graph.proofs.Loops.{copies-more}
use Rattle.abt_graph.proofs.Mapping.{IsGraph-map}
use Rattle.abt_graph.proofs.shapes.map.Goals as goal

pub loop-preserved : goal.loop-preserved
loop-preserved c = copies-more c.loop.nodes.items c.push.new.self.items c.loop.counter (lone c.args.function) c.loop.invariant (c.in_ok-push.ensures.items ∙ ap (λ node. c.loop.nodes.items ++ node ∷ []) c.lone.ensures)

pub returns-clause-graph : goal.returns-clause-graph
returns-clause-graph c =
    let all : c.loop.counter ≡ c.args.n = omega arith in
    let same : c.loop.nodes.items ≡ map_nodes c.args.n c.args.function = c.loop.invariant ∙ ap (λ k. replicate k (lone c.args.function)) all in
    subst IsGraph (sym same) (IsGraph-map c.args.n c.args.function c.requires.few c.requires.function)
