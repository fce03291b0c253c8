use Rattle.abt_tables.proofs.Loops.{made-more}
use Rattle.abt_tables.proofs.runs.take_rows.Goals as goal

pub loop-u-preserved : goal.loop-u-preserved
loop-u-preserved g c =
    made-more c.loop-u.rows.items c.push.new.self.items c.in-Some.words (λ row. row.items) g.T.Table.row_at c.loop-u.u
    c.loop-u.invariant c.in_ok-push-in-Some.ensures.items c.in-Some.ensures
