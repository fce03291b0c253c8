use Rattle.std.proofs.Common.{refl}
use Rattle.abt_report.proofs.Joining.{ending}
use Rattle.abt_report.proofs.reports.push_end.Goals as goal

pub returns : goal.returns
returns c = ending c.args.rows.now _ c.tally_of.result c.args.steps c.args.outcome c.args.out.now.items c.push_tally.new.out.items c.push_outcome.new.out.items refl c.tally_of.ensures c.in_ok-push_tally.ensures c.in_ok-push_outcome.ensures
