use Rattle.std.proofs.Common.{refl, rules, subst}
use Rattle.abt_machine.specs.Valid.{IsValid}
use Rattle.abt_run.specs.Given.{given}
use Rattle.abt_run.proofs.FlowWords.{flow-says}
use Rattle.abt_run.proofs.Flowing.{prints-flow, prints-no-flow, prints-violation}
use Rattle.abt_run.proofs.Storing.{stores_calls}
use Rattle.abt_shell.proofs.Fetched.{passed}
use Rattle.abt_run.proofs.Preparing.{no-workload-stops}
use Rattle.abt_run.proofs.following.prepare_flow.Goals as goal

pub returns-in_err-w-clause-stop : goal.returns-in_err-w-clause-stop
returns-in_err-w-clause-stop g c = λ file_of agree words stored same says.
    passed c.from_residual.result c.in_err-w.field-0.0 _ c.from_residual.ensures.1 (no-workload-stops c.in_err-w.field-0.0 _ _ _ _ says refl (c.in_err-w.ensures.stop file_of agree))

pub find_flow-requires-clause-stored : goal.find_flow-requires-clause-stored
find_flow-requires-clause-stored g c = stores_calls _ _ c.known.ensures c.requires.calls

pub flow_text-requires-clause-words : goal.flow_text-requires-clause-words
flow_text-requires-clause-words g c =
    let flow = rw c.in-Some-2.is at c.in_ok-flow.ensures in
    flow-says c.in_ok-w.w _ (subst IsValid c.w.view_is c.w.invariant.0) c.in-Some-2.flow flow

pub returns-in-Some-clause-done : goal.returns-in-Some-clause-done
returns-in-Some-clause-done g c = λ file_of agree keep words stored same says.
    prints-violation (given words stored file_of) keep _ _ _ c.in_ok-w.w c.args.file.now c.in_ok-text.text.items c.in-Some.violation
    c.without_run.ensures.conclusion c.without_run.ensures.journal c.without_run.ensures.text says (c.in_ok-w.ensures.reads file_of agree)
    (rw c.in-Some.is at c.in_ok-violation.ensures.confluent) (rw c.in-Some.is at c.in_ok-violation.ensures.first) c.in_ok-text.ensures

pub returns-in-Some-2-clause-done : goal.returns-in-Some-2-clause-done
returns-in-Some-2-clause-done g c = λ file_of agree keep words stored same says.
    prints-flow (given words stored file_of) keep _ _ _ c.in_ok-w.w c.args.file.now c.in_ok-text-in-Some-2.text.items _ c.in-Some-2.flow
    c.without_run-in-Some-2.ensures.conclusion c.without_run-in-Some-2.ensures.journal c.without_run-in-Some-2.ensures.text says (c.in_ok-w.ensures.reads file_of agree) same
    (search rules) (rw c.in-Some-2.is at c.in_ok-flow.ensures) c.in_ok-text-in-Some-2.ensures

pub returns-clause-done : goal.returns-clause-done
returns-clause-done g c = λ file_of agree keep words stored same says.
    prints-no-flow (given words stored file_of) keep _ _ _ c.in_ok-w.w c.args.file.now c.in_ok-text-in-None.text.items _
    c.without_run-in-None.ensures.conclusion c.without_run-in-None.ensures.journal c.without_run-in-None.ensures.text says (c.in_ok-w.ensures.reads file_of agree) same
    (search rules) (rw c.in-None.is at c.in_ok-flow.ensures) c.in_ok-text-in-None.ensures.items
