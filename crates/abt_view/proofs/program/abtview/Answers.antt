use Rattle.std.proofs.Common.{inl, map, refl, rules, string_bytes}
use Rattle.abt_shell.specs.More.{more_text}
use Rattle.abt_shell.proofs.Calls.{adds-known, concluded, missing-ends, not-stopped, stopped, stopped-by}
use Rattle.abt_view.specs.Call.{IsNamed}
use Rattle.abt_view.proofs.Complete.{answered}
use Rattle.abt_view.proofs.Requests.{lacks-journal}
use Rattle.abt_view.proofs.program.abtview.Goals as goal

pub returns-in-Ok : goal.returns-in-Ok
returns-in-Ok g c = λ file_of agree.
    answered _ _ (concluded _ _ c.in-Ok.it.conclusion c.in-Ok.it.text.items _ _ (c.in-Ok.ensures.done file_of agree) c.number.ensures (rw c.deref.ensures.value at c.write_out.ensures))
    (λ q file asks names gone. absurd (not-stopped _ _ (c.in-Ok.ensures.missing q file asks names gone))) (λ q names asks tells gone. absurd (c.in-Ok.ensures.absent file_of agree q asks gone))
    (λ fault. absurd (not-stopped _ _ (c.in-Ok.ensures.faulty fault)))

pub returns-in-Err : goal.returns-in-Err
returns-in-Err g c = λ file_of agree.
    answered _ _ (stopped _ _ c.in-Err.stop c.stop_by.result (more_text c.more_of-more.result) _ (c.in-Err.ensures.stop file_of agree) tt (adds-known _ _ (IsNamed
    (map string_bytes c.args.words.now)) _ c.fault.result c.in-Err.stop _ refl c.in-Err.ensures.named c.fault.ensures c.more_of-more.ensures) refl c.number-in-Err.ensures
    (search rules) c.stop_by.ensures.told)
    (λ q file asks names gone. missing-ends _ c.in-Err.stop c.stop_by.result (inl (stopped-by _ _ (c.in-Err.ensures.missing q file asks names gone))) c.number-in-Err.ensures c.stop_by.ensures.same)
    (λ q names asks tells gone. missing-ends _ c.in-Err.stop c.stop_by.result (lacks-journal _ _ names _ c.in-Err.stop tells
    (c.in-Err.ensures.absent file_of agree q asks gone)) c.number-in-Err.ensures c.stop_by.ensures.same)
    (λ fault. missing-ends _ c.in-Err.stop c.stop_by.result (inl (stopped-by _ _ (c.in-Err.ensures.faulty fault))) c.number-in-Err.ensures c.stop_by.ensures.same)
