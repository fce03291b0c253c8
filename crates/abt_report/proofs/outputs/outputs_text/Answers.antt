use Rattle.std.proofs.Common.{[]}
use Rattle.abt_report.specs.Outputs.{output_line}
use Rattle.abt_report.proofs.Joining.{one-more}
use Rattle.abt_report.proofs.Numbering.{one-line-more}
use Rattle.abt_report.proofs.outputs.outputs_text.Goals as goal

pub loop-u-preserved : goal.loop-u-preserved
loop-u-preserved c =
    one-more [] _ _ _ c.loop-u.out.items c.push_line.new.out.items c.loop-u.invariant (rw c.items.ensures at c.in_ok-push_line.ensures)
    (one-line-more (output_line c.args.w.now) c.args.outputs.now c.loop-u.u c.index-outputs-u.result c.loop-u-test.true c.index-outputs-u.is)
