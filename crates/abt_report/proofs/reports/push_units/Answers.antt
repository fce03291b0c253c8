use Rattle.abt_machine.specs.Texts.{unit_line}
use Rattle.abt_report.proofs.Joining.{one-more}
use Rattle.abt_report.proofs.Numbering.{lines-more}
use Rattle.abt_report.proofs.reports.push_units.Goals as goal

pub loop-u-preserved : goal.loop-u-preserved
loop-u-preserved c =
    one-more _ _ _ _ c.loop-u.out.items c.push_unit.new.out.items c.loop-u.invariant c.in_ok-push_unit.ensures
    (lines-more (unit_line c.args.w.now) c.args.rows.now c.loop-u.u c.index-rows-u.result c.loop-u-test.true c.index-rows-u.is)
