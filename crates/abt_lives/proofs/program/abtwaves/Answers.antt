use Rattle.std.proofs.Common.{inl, inr, map, refl, rules, string_bytes, subst, sym}
use Rattle.abt_run.proofs.Preparing.{as-many}
use Rattle.abt_run.proofs.Stepping.{no-line-ends}
use Rattle.abt_order.specs.Stored.{stored_of}
use Rattle.abt_shell.specs.More.{more_text}
use Rattle.abt_shell.proofs.Calls.{adds-known, concluded, missing-ends, not-stopped, stopped, stopped-by}
use Rattle.abt_run.specs.Given.{given}
use Rattle.abt_lives.specs.Asked.{IsNamed}
use Rattle.abt_lives.specs.Call.{PrintsLives, program}
use Rattle.abt_lives.proofs.Complete.{answered, lacks-lives}
use Rattle.abt_lives.proofs.program.abtwaves.Goals as goal

pub returns-in-Ok : goal.returns-in-Ok
returns-in-Ok g c = λ file_of agree.
    answered _ _ (as-many _ c.args.orders.now 2 c.requires.orders)
    (concluded (program _) _ c.in-Ok.done.conclusion c.in-Ok.done.text.items _ _ (subst (λ j. PrintsLives (given (map string_bytes c.args.words.now) (stored_of c.args.orders.now
    (g.P.Work.returns c.args.work.now)) file_of) j c.in-Ok.done.conclusion c.in-Ok.done.text.items) (sym c.conclude_run.ensures.journal) (c.in-Ok.ensures.done file_of agree)) c.number.ensures
    (rw c.deref.ensures.value at c.conclude_run.ensures.status))
    (λ run gone. elim (c.in-Ok.ensures.absent run gone) [ inl read ↦ absurd (not-stopped _ _ read) | inr refused ↦ absurd (not-stopped _ _ refused) ])
    (λ W tells gone within. absurd (c.in-Ok.ensures.missing file_of agree tells.run gone))
    (λ run known still. absurd (c.in-Ok.ensures.exceeds file_of agree run known))
    (λ fault. absurd (not-stopped _ _ (c.in-Ok.ensures.faulty fault)))

pub returns-in-Err : goal.returns-in-Err
returns-in-Err g c = λ file_of agree.
    let (why, number, same, told) = c.stop_without_run.ensures.stopped in
    answered _ _ (as-many _ c.args.orders.now 2 c.requires.orders)
    (stopped (program _) _ c.in-Err.stop why (more_text c.more_of-more.result) _ (record { why = c.in-Err.ensures.stop file_of agree; journal = c.stop_without_run.ensures.journal })
    (record { why = tt; journal = c.stop_without_run.ensures.journal })
    (adds-known _ _ (IsNamed (map string_bytes c.args.words.now)) _ c.fault.result c.in-Err.stop _ refl c.in-Err.ensures.named c.fault.ensures c.more_of-more.ensures) refl number (search rules) told)
    (λ run gone. elim (c.in-Err.ensures.absent run gone) [
      | inl read ↦ missing-ends _ c.in-Err.stop why (inl (stopped-by _ _ read)) number same
      | inr refused ↦ missing-ends _ c.in-Err.stop why (inr (stopped-by _ _ refused)) number same
    ])
    (λ W tells gone within. missing-ends _ c.in-Err.stop why (lacks-lives _ W tells _ c.in-Err.stop within (c.in-Err.ensures.missing file_of agree tells.run gone)) number same)
    (λ run known still. no-line-ends _ _ c.in-Err.stop why (c.in-Err.ensures.exceeds file_of agree run known) still number same)
    (λ fault. missing-ends _ c.in-Err.stop why (inl (stopped-by _ _ (c.in-Err.ensures.faulty fault))) number same)
