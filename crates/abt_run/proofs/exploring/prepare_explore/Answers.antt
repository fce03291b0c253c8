use Rattle.std.proofs.Common.{ℕ, refl, subst}
use Rattle.abt_explore.specs.Explored.{IsExplored}
use Rattle.abt_order.specs.Stored.{stored_of}
use Rattle.abt_run.specs.Ends.{states_searched}
use Rattle.abt_shell.proofs.Fetched.{passed}
use Rattle.abt_run.proofs.Preparing.{no-workload-stops}
use Rattle.abt_run.proofs.Searching.{found-says, not-searched, searched}
use Rattle.abt_run.proofs.Storing.{stores_calls}
use Rattle.abt_run.proofs.exploring.prepare_explore.Goals as goal

pub returns-in_err-w-clause-stop : goal.returns-in_err-w-clause-stop
returns-in_err-w-clause-stop g c = λ file_of agree words says.
    passed c.from_residual.result c.in_err-w.field-0.0 _ c.from_residual.ensures.1 (no-workload-stops c.in_err-w.field-0.0 _ _ _ _ says refl (c.in_err-w.ensures.stop file_of agree))

pub returns-in-Some-clause-done : goal.returns-in-Some-clause-done
returns-in-Some-clause-done g c = λ file_of agree keep words says.
    not-searched _ keep _ c.without_run.ensures.journal c.in_ok-w.w (record { file = c.args.file.now; states = c.args.states; end = c.args.asked; journal = c.args.with_journal }) says
    (c.in_ok-w.ensures.reads file_of agree) c.in-Some.scheduler.0 _ c.in_ok-text.text.items _
    c.in-Some.ensures.changes c.in_ok-text.ensures c.without_run.ensures.conclusion c.without_run.ensures.text

pub explore-requires-clause-calls : goal.explore-requires-clause-calls
explore-requires-clause-calls g c = stores_calls c.in_ok-w.w _ c.known.ensures c.requires.calls

pub returns-clause-done : goal.returns-clause-done
returns-clause-done g c = λ file_of agree keep words says.
    let stored = stored_of c.args.orders.now (g.P.Work.returns c.args.work.now) in
    let found : IsExplored c.in_ok-w.w stored (states_searched c.args.states) c.in_ok-found.found =
    subst (λ (most : ℕ). IsExplored c.in_ok-w.w stored most c.in_ok-found.found) c.unwrap_or-most.ensures c.in_ok-found.ensures in
    searched _ keep _ c.without_run-2.ensures.journal c.in_ok-w.w (record { file = c.args.file.now; states = c.args.states; end = c.args.asked; journal = c.args.with_journal }) says
    (c.in_ok-w.ensures.reads file_of agree) c.in_ok-found.found c.in_ok-conclusion.conclusion _
    c.in_ok-conclusion.text.items _ found c.in_ok-conclusion.ensures c.without_run-2.ensures.conclusion c.without_run-2.ensures.text

pub shown-requires : goal.shown-requires
shown-requires g c = record { words = found-says c.in_ok-w.w _ _ c.in_ok-found.found c.in_ok-found.ensures }
