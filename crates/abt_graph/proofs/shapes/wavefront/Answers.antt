use Rattle.std.proofs.Common.{◌≡◌, ◌∙◌, ◌*◌, ap, arith, map, subst, sym}
use Rattle.std.specs.List.{range_with_len}
use Rattle.abt_graph.specs.Graphs.{IsGraph}
use Rattle.abt_graph.specs.Shapes.{cell_of, wavefront_nodes}
use Rattle.abt_graph.proofs.Loops.{range-more}
use Rattle.abt_graph.proofs.Waving.{IsGraph-wavefront}
use Rattle.abt_graph.proofs.shapes.wavefront.Goals as goal

pub loop-u-preserved : goal.loop-u-preserved
loop-u-preserved c = range-more (cell_of c.args.columns c.args.function) c.loop-u.nodes.items c.push.new.self.items c.loop-u.u c.in_ok-cell.field-0 c.loop-u.invariant c.in_ok-push.ensures.items c.in_ok-cell.ensures

pub returns-clause-graph : goal.returns-clause-graph
returns-clause-graph c =
    let all : c.loop-u.u ≡ c.args.rows * c.args.columns = omega arith in
    let same : c.loop-u.nodes.items ≡ wavefront_nodes c.args.rows c.args.columns c.args.function = c.loop-u.invariant ∙ ap (λ k. map (cell_of c.args.columns c.args.function) (range_with_len 0 k)) all in
    subst IsGraph (sym same) (IsGraph-wavefront c.args.rows c.args.columns c.args.function c.requires.few c.requires.function)
