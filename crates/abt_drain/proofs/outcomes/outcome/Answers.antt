-- How runs ended.
use Rattle.abt_drain.proofs.Looking.{runs-end}
use Rattle.abt_drain.proofs.outcomes.outcome.Goals as goal

pub returns-clause-run : goal.returns-clause-run
returns-clause-run c = runs-end c.args.w.now c.args.steps c.args.streams.now c.args.objects.now c.seen.result c.known.ensures c.seen.ensures
