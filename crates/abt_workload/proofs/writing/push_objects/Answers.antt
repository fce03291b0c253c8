use Rattle.abt_machine.specs.Canonical.{object_line}
use Rattle.abt_workload.proofs.WritingLines.{line-more}
use Rattle.abt_workload.proofs.writing.push_objects.Goals as goal

pub loop-x-preserved : goal.loop-x-preserved
loop-x-preserved c = line-more object_line c.args.w.now.objects c.loop-x.x c.thing.result c.args.out.now.items c.loop-x.out.items c.push_object.new.out.items c.thing.ensures c.loop-x.invariant c.in_ok-push_object.ensures
