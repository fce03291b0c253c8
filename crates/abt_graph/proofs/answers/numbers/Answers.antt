use Rattle.std.proofs.Common.{subst, sym, arith}
use Rattle.abt_graph.specs.Pictured.{IsNumber}
use Rattle.abt_graph.proofs.Shown.{rows-more}
use Rattle.abt_graph.proofs.answers.numbers.Goals as goal

pub number-requires : goal.number-requires
number-requires c = subst IsNumber (sym c.row-item.is) (c.requires c.loop-row.row-index c.row-item.result (omega arith))

pub loop-row-preserved : goal.loop-row-preserved
loop-row-preserved c = rows-more c.args.rows.now c.loop-row.row-index c.row-item.result c.loop-row.numbers.items c.push.new.self.items c.number.result (omega arith) c.row-item.is c.number.ensures c.loop-row.invariant c.in_ok-push.ensures.items
