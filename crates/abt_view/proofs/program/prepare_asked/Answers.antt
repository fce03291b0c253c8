use Rattle.std.proofs.Common.{arith, map, refl, string_bytes, None, Some}
use Rattle.abt_shell.proofs.Calls.{if-err, if-ok, if-unread}
use Rattle.abt_view.specs.Views.{Asks, request}
use Rattle.abt_view.proofs.Preparing.{no-journal-stops}
use Rattle.abt_view.proofs.Requests.{names-both, names-journal}
use Rattle.abt_view.proofs.program.prepare_asked.Goals as goal

pub returns-in-Some-default-default-None-clause-done : goal.returns-in-Some-default-default-None-clause-done
returns-in-Some-default-default-None-clause-done g c = λ file_of agree.
    let asks : Asks (map string_bytes c.args.words.now) (request c.in-Some-default-default-None.view c.in-Some-default-default-None.journal.now None) =
    rw c.in-Some-default-default-None.field-0-2-is at c.in-Some-default-default-None.ensures in
    if-ok c.prepare_view.result _ _ (λ text shown. record { request = request c.in-Some-default-default-None.view c.in-Some-default-default-None.journal.now None; asks = asks; shown = shown })
    (c.prepare_view.ensures.done file_of agree)

pub returns-in-Some-default-default-None-clause-stop : goal.returns-in-Some-default-default-None-clause-stop
returns-in-Some-default-default-None-clause-stop g c = λ file_of agree.
    let asks : Asks (map string_bytes c.args.words.now) (request c.in-Some-default-default-None.view c.in-Some-default-default-None.journal.now None) =
    rw c.in-Some-default-default-None.field-0-2-is at c.in-Some-default-default-None.ensures in
    if-err c.prepare_view.result _ _
    (λ s h. no-journal-stops _ _ (request c.in-Some-default-default-None.view c.in-Some-default-default-None.journal.now None) None _ _ _ _ asks refl refl (omega arith) c.prepare_view.ensures.later s h)
    (c.prepare_view.ensures.stop file_of agree)

pub returns-in-Some-default-default-Some-clause-done : goal.returns-in-Some-default-default-Some-clause-done
returns-in-Some-default-default-Some-clause-done g c = λ file_of agree.
    let asks : Asks (map string_bytes c.args.words.now) (request c.in-Some-default-default-Some.view c.in-Some-default-default-Some.journal.now (Some c.in-Some-default-default-Some.workload.now)) =
    rw c.in-Some-default-default-Some.field-0-2-is at c.in-Some-default-default-Some.ensures in
    if-ok c.prepare_named.result _ _
    (λ text shown. record { request = request c.in-Some-default-default-Some.view c.in-Some-default-default-Some.journal.now (Some c.in-Some-default-default-Some.workload.now); asks = asks; shown = shown })
    (c.prepare_named.ensures.done file_of agree)

pub returns-in-Some-default-default-Some-clause-stop : goal.returns-in-Some-default-default-Some-clause-stop
returns-in-Some-default-default-Some-clause-stop g c = λ file_of agree.
    let asks : Asks (map string_bytes c.args.words.now) (request c.in-Some-default-default-Some.view c.in-Some-default-default-Some.journal.now (Some c.in-Some-default-default-Some.workload.now)) =
    rw c.in-Some-default-default-Some.field-0-2-is at c.in-Some-default-default-Some.ensures in
    c.prepare_named.ensures.stop file_of agree _ asks

pub returns-in-None-clause-missing : goal.returns-in-None-clause-missing
returns-in-None-clause-missing g c = λ q file asks names gone. absurd (c.in-None.ensures q asks)

pub returns-in-None-clause-absent : goal.returns-in-None-clause-absent
returns-in-None-clause-absent g c = λ file_of agree q asks gone. absurd (c.in-None.ensures q asks)

pub returns-in-Some-default-default-None-clause-named : goal.returns-in-Some-default-default-None-clause-named
returns-in-Some-default-default-None-clause-named g c =
    let asks : Asks (map string_bytes c.args.words.now) (request c.in-Some-default-default-None.view c.in-Some-default-default-None.journal.now None) =
    rw c.in-Some-default-default-None.field-0-2-is at c.in-Some-default-default-None.ensures in
    if-unread c.prepare_view.result _ (names-journal _ (request c.in-Some-default-default-None.view c.in-Some-default-default-None.journal.now None) _ asks c.prepare_view.ensures.begun)

pub returns-in-Some-default-default-Some-clause-named : goal.returns-in-Some-default-default-Some-clause-named
returns-in-Some-default-default-Some-clause-named g c =
    let asks : Asks (map string_bytes c.args.words.now) (request c.in-Some-default-default-Some.view c.in-Some-default-default-Some.journal.now (Some c.in-Some-default-default-Some.workload.now)) =
    rw c.in-Some-default-default-Some.field-0-2-is at c.in-Some-default-default-Some.ensures in
    if-unread c.prepare_named.result _ (names-both _ (request c.in-Some-default-default-Some.view c.in-Some-default-default-Some.journal.now (Some c.in-Some-default-default-Some.workload.now)) _ _ asks refl c.prepare_named.ensures.begun)
