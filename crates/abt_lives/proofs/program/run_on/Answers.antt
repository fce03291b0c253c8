use Rattle.std.proofs.lemmas.Result.{IfOk-weaker}
use Rattle.abt_order.specs.Stored.{stored_of}
use Rattle.abt_sizes.specs.Laws.{IsSmall}
use Rattle.abt_streams.specs.declared.run.LivesRun.{LivesRun}
use Rattle.abt_streams.specs.Waves.{HasRunOn}
use Rattle.abt_run.proofs.Preparing.{as-many}
use Rattle.abt_run.proofs.Small.{run-is-small}
use Rattle.abt_lives.proofs.program.run_on.Goals as goal

pub returns-clause-small : goal.returns-clause-small
returns-clause-small g c =
    let stored = stored_of c.args.orders.now (g.P.Work.returns c.args.work.now) in
    IfOk-weaker c.run_lives.result (λ (run : LivesRun). HasRunOn c.args.w.now stored c.args.steps c.args.lives.now run.journal run.waves run.outcome) (λ (run : LivesRun). IsSmall c.args.w.now run.journal)
    (λ run has. run-is-small c.args.w.now stored c.known.ensures (as-many _ c.args.orders.now 2 c.requires.orders) run.journal has.run) c.run_lives.ensures.run
