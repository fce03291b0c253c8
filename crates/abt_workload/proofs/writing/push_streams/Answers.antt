use Rattle.abt_machine.specs.Canonical.{stream_line}
use Rattle.abt_workload.proofs.WritingLines.{line-more}
use Rattle.abt_workload.proofs.writing.push_streams.Goals as goal

pub loop-s-preserved : goal.loop-s-preserved
loop-s-preserved c = line-more stream_line c.args.w.now.mains c.loop-s.s c.main.result c.args.out.now.items c.loop-s.out.items c.push_stream.new.out.items c.main.ensures c.loop-s.invariant c.in_ok-push_stream.ensures
