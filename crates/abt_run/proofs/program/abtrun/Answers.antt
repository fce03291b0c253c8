use Rattle.std.proofs.Common.{inl, inr, map, refl, rules, string_bytes}
use Rattle.abt_shell.specs.More.{more_text}
use Rattle.abt_shell.proofs.Calls.{adds-known, concluded, missing-ends, not-stopped, stopped, stopped-by}
use Rattle.abt_run.specs.Call.{program}
use Rattle.abt_run.specs.Given.{IsNamed}
use Rattle.abt_run.proofs.Complete.{answered, lacks-second}
use Rattle.abt_run.proofs.Preparing.{as-many}
use Rattle.abt_run.proofs.Stepping.{no-line-ends}
use Rattle.abt_run.proofs.program.abtrun.Goals as goal

pub returns-in-Ok : goal.returns-in-Ok
returns-in-Ok g c = λ file_of agree.
    answered _ _ (as-many _ c.args.orders.now 2 c.requires.orders)
    (concluded (program _) _ c.in-Ok.done.conclusion c.in-Ok.done.text.items _ _ (c.in-Ok.ensures.done file_of agree) c.number.ensures (rw c.deref.ensures.value at c.write_out-status.ensures))
    (λ command file says names gone. elim (c.in-Ok.ensures.absent command file says names gone) [ inl read ↦ absurd (not-stopped _ _ read) | inr refused ↦ absurd (not-stopped _ _ refused) ])
    (λ w W says tells gone. absurd (c.in-Ok.ensures.missing file_of agree w says gone))
    (λ w W says tells gone. absurd (c.in-Ok.ensures.lost file_of agree w says gone))
    (λ w says known still. absurd (c.in-Ok.ensures.exceeds file_of agree w says known))
    (λ fault. absurd (not-stopped _ _ (c.in-Ok.ensures.faulty fault)))

pub returns-in-Err : goal.returns-in-Err
returns-in-Err g c = λ file_of agree.
    answered _ _ (as-many _ c.args.orders.now 2 c.requires.orders)
    (stopped (program _) _ c.in-Err.stop c.stop_by-why.result (more_text c.more_of-more.result) _ (record { why = c.in-Err.ensures.stop file_of agree; journal = refl })
    (record { why = tt; journal = refl })
    (adds-known _ _ (IsNamed (map string_bytes c.args.words.now)) _ c.fault.result c.in-Err.stop _ c.usage.ensures c.in-Err.ensures.named c.fault.ensures c.more_of-more.ensures) refl
    c.number-in-Err.ensures (search rules) c.stop_by-why.ensures.told)
    (λ command file says names gone. elim (c.in-Err.ensures.absent command file says names gone) [
      | inl read ↦ missing-ends _ c.in-Err.stop c.stop_by-why.result (inl (stopped-by _ _ read)) c.number-in-Err.ensures c.stop_by-why.ensures.same
      | inr refused ↦ missing-ends _ c.in-Err.stop c.stop_by-why.result (inr (stopped-by _ _ refused)) c.number-in-Err.ensures c.stop_by-why.ensures.same
    ])
    (λ w W says tells gone. missing-ends _ c.in-Err.stop c.stop_by-why.result (lacks-second _ tells.0 W _ c.in-Err.stop tells.1 tells.2
    (c.in-Err.ensures.missing file_of agree w says gone)) c.number-in-Err.ensures c.stop_by-why.ensures.same)
    (λ w W says tells gone. missing-ends _ c.in-Err.stop c.stop_by-why.result (lacks-second _ tells.0 W _ c.in-Err.stop tells.1 tells.2
    (c.in-Err.ensures.lost file_of agree w says gone)) c.number-in-Err.ensures c.stop_by-why.ensures.same)
    (λ w says known still. no-line-ends _ _ c.in-Err.stop c.stop_by-why.result (c.in-Err.ensures.exceeds file_of agree w says known) still c.number-in-Err.ensures c.stop_by-why.ensures.same)
    (λ fault. missing-ends _ c.in-Err.stop c.stop_by-why.result (inl (stopped-by _ _ (c.in-Err.ensures.faulty fault))) c.number-in-Err.ensures c.stop_by-why.ensures.same)
