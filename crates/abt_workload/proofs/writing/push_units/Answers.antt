use Rattle.abt_machine.specs.Canonical.{unit_lines}
use Rattle.abt_workload.proofs.WholeTexts.{unit-declared}
use Rattle.abt_workload.proofs.WritingLines.{lines-more}
use Rattle.abt_workload.proofs.writing.push_units.Goals as goal

pub push_unit-requires : goal.push_unit-requires
push_unit-requires c = unit-declared c.args.w.now c.loop-u.u c.unit.result.now c.requires c.unit.ensures

pub loop-u-preserved : goal.loop-u-preserved
loop-u-preserved c = lines-more (unit_lines c.args.w.now) c.args.w.now.units c.loop-u.u c.unit.result.now c.args.out.now.items c.loop-u.out.items c.push_unit.new.out.items c.unit.ensures c.loop-u.invariant c.in_ok-push_unit.ensures
