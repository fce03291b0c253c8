use Rattle.abt_order.specs.Stored.{stored_of}
use Rattle.abt_outcomes.proofs.Stored.{orders-stored}
use Rattle.abt_run.proofs.Outputs.{by_seed}
use Rattle.abt_run.proofs.Preparing.{as-many}
use Rattle.abt_run.proofs.running.run_by_seed.Goals as goal

pub returns : goal.returns
returns g c =
    let stored = stored_of c.args.orders.now (g.P.Work.returns c.args.work.now) in
    by_seed c.args.w.now stored c.args.seed c.args.steps c.args.keeps c.in_ok-scheduled.scheduled c.kept_run.result c.known.ensures
    (orders-stored c.args.w.now stored c.known.ensures (as-many _ c.args.orders.now 2 c.requires.orders))
    c.in_ok-scheduled.ensures c.kept_run.ensures.journal c.kept_run.ensures.picture c.kept_run.ensures.steps c.kept_run.ensures.outcome
