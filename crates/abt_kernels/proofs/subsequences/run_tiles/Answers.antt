use Rattle.std.proofs.Common.{◌<◌, ◌∙◌, arith, length}
use Rattle.abt_kernels.specs.Subsequences.{common_length}
use Rattle.abt_kernels.proofs.Neighbours.{last-of-rows, last-word}
use Rattle.abt_kernels.proofs.subsequences.run_tiles.Goals as goal

pub overflow_sub-len-2 : goal.overflow_sub-len-2
overflow_sub-len-2 g c =
    (last-of-rows (λ row. row.items) g.T.Table.row_at c.args.a.now c.args.b.now c.args.grid.now c.args.lines c.in_ok-rows.rows.items c.len.result c.len-2.result c.index-edges.result.now
    c.requires.table c.requires.lines c.requires.columns
    c.in_ok-rows.ensures (c.len.ensures ∙ c.in_ok-rows.rows.ok.0) c.index-edges.ensures (c.len-2.ensures ∙ c.index-edges.result.now.ok.0)).0

pub index-requires : goal.index-requires
index-requires g c =
    let some : 0 < c.len-2.result =
    (last-of-rows (λ row. row.items) g.T.Table.row_at c.args.a.now c.args.b.now c.args.grid.now c.args.lines c.in_ok-rows.rows.items c.len.result c.len-2.result c.index-edges.result.now
    c.requires.table c.requires.lines c.requires.columns
    c.in_ok-rows.ensures (c.len.ensures ∙ c.in_ok-rows.rows.ok.0) c.index-edges.ensures (c.len-2.ensures ∙ c.index-edges.result.now.ok.0)).0 in
    omega arith

pub returns : goal.returns
returns g c =
    last-word c.index-edges.result.now.items c.len-2.result c.index.result.now (common_length c.args.a.now c.args.b.now (length c.args.a.now) (length c.args.b.now))
    (c.len-2.ensures ∙ c.index-edges.result.now.ok.0) c.index.ensures
    (last-of-rows (λ row. row.items) g.T.Table.row_at c.args.a.now c.args.b.now c.args.grid.now c.args.lines c.in_ok-rows.rows.items c.len.result c.len-2.result c.index-edges.result.now
    c.requires.table c.requires.lines c.requires.columns
    c.in_ok-rows.ensures (c.len.ensures ∙ c.in_ok-rows.rows.ok.0) c.index-edges.ensures (c.len-2.ensures ∙ c.index-edges.result.now.ok.0))
