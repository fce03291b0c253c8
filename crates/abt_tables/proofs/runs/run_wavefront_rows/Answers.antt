use Rattle.std.proofs.Common.{All, ◌≡◌, ◌∙◌, ◌*◌, IfOk, ap, length, map, subst, sym}
use Rattle.std.specs.List.{range_with_len}
use Rattle.std.proofs.lemmas.List.FromFn.{length-map-range_with_len}
use Rattle.abt_graph.specs.Shapes.{cell_of}
use Rattle.abt_graph.specs.declared.nodes.Node.{Node}
use Rattle.abt_tables.proofs.Grids.{grid-calls}
use Rattle.abt_tables.proofs.runs.run_wavefront_rows.Goals as goal

pub run_rows-requires-clause-functions : goal.run_rows-requires-clause-functions
run_rows-requires-clause-functions g c κs within =
    subst (All (λ (node : Node). node.function ≡ 0)) (sym (c.deref.ensures.value ∙ c.in_ok-nodes.ensures.nodes)) (grid-calls c.args.lines c.args.columns 0)

pub returns : goal.returns
returns g c =
    let long : length c.deref.result.now ≡ c.args.lines * c.args.columns =
    ap length (c.deref.ensures.value ∙ c.in_ok-nodes.ensures.nodes) ∙ length-map-range_with_len (cell_of c.args.columns 0) 0 (c.args.lines * c.args.columns) in
    subst (λ n. IfOk c.run_rows.result (λ rows. map (λ row. row.items) rows.items ≡ map g.T.Table.row_at (range_with_len 0 n))) long c.run_rows.ensures
