use Rattle.std.proofs.Common.{◌≡◌, map}
use Rattle.std.specs.List.{range_with_len}
use Rattle.abt_tables.proofs.runs.take_rows.Given as goal

abbrev pub invariant-loop-u : goal.invariant-loop-u
invariant-loop-u g l = map (λ row. row.items) l.rows.items ≡ map g.T.Table.row_at (range_with_len 0 l.u)
