use Rattle.std.proofs.Common.{◌∙◌, ap, inl, map, string_bytes, subst, sym}
use Rattle.std.specs.Prelude.{IsErrAnd}
use Rattle.abt_words.specs.declared.lives.LivesWords.{LivesWords}
use Rattle.abt_shell.proofs.Calls.{if-refused, if-unread}
use Rattle.abt_run.specs.Steps.{ExceedsKnown}
use Rattle.abt_lives.specs.Asked.{LacksLives}
use Rattle.abt_lives.proofs.Naming.{named, run-or-about, said-as, same-asked}
use Rattle.abt_lives.proofs.program.prepare.Goals as goal

pub returns-in-Some-clause-done : goal.returns-in-Some-clause-done
returns-in-Some-clause-done g c = λ file_of agree. c.prepare_about.ensures.done _ c.in-Some.ensures

pub returns-in-Some-clause-absent : goal.returns-in-Some-clause-absent
returns-in-Some-clause-absent g c = λ run gone. absurd (run-or-about _ run c.in-Some.asked c.in-Some.ensures)

pub returns-in-Some-clause-missing : goal.returns-in-Some-clause-missing
returns-in-Some-clause-missing g c = λ file_of agree run gone. absurd (run-or-about _ run c.in-Some.asked c.in-Some.ensures)

pub returns-in-Some-clause-exceeds : goal.returns-in-Some-clause-exceeds
returns-in-Some-clause-exceeds g c = λ file_of agree run known. absurd (run-or-about _ run c.in-Some.asked c.in-Some.ensures)

pub returns-in-Ok-clause-done : goal.returns-in-Ok-clause-done
returns-in-Ok-clause-done g c = λ file_of agree.
    c.prepare_files.ensures.done file_of agree (map string_bytes c.args.words.now) (said-as
    (map string_bytes c.args.words.now) c.in-Ok.asked _ _ c.as_str.ensures c.as_str-in-Ok.ensures c.in-Ok.ensures.said)

pub returns-in-Ok-clause-stop : goal.returns-in-Ok-clause-stop
returns-in-Ok-clause-stop g c = λ file_of agree.
    c.prepare_files.ensures.stop file_of agree (map string_bytes c.args.words.now) (said-as
    (map string_bytes c.args.words.now) c.in-Ok.asked _ _ c.as_str.ensures c.as_str-in-Ok.ensures c.in-Ok.ensures.said)

pub returns-in-Ok-clause-absent : goal.returns-in-Ok-clause-absent
returns-in-Ok-clause-absent g c = λ run gone.
    let same = same-asked (map string_bytes c.args.words.now) run (record { asked = c.in-Ok.asked; says = c.in-Ok.ensures.said }) in
    inl (c.prepare_files.ensures.absent (subst (g.F.Files.absent c.args.files.now) (ap (λ (w : LivesWords). w.workload) same ∙ sym c.as_str.ensures) gone))

pub returns-in-Ok-clause-missing : goal.returns-in-Ok-clause-missing
returns-in-Ok-clause-missing g c = λ file_of agree run gone.
    let same = same-asked (map string_bytes c.args.words.now) run (record { asked = c.in-Ok.asked; says = c.in-Ok.ensures.said }) in
    let known = c.prepare_files.ensures.missing file_of agree (subst (g.F.Files.absent c.args.files.now) (ap (λ (w : LivesWords). w.lives) same ∙ sym c.as_str-in-Ok.ensures) gone) in
    subst (λ (w : LivesWords). IsErrAnd c.prepare_files.result (LacksLives (file_of w.workload) w.steps (g.F.Files.faults c.args.files.now, g.F.Files.faults c.prepare_files.new.files))) (sym same)
    (subst (λ name. IsErrAnd c.prepare_files.result (LacksLives (file_of name) c.in-Ok.asked.steps
    (g.F.Files.faults c.args.files.now, g.F.Files.faults c.prepare_files.new.files))) c.as_str.ensures known)

pub returns-in-Ok-clause-exceeds : goal.returns-in-Ok-clause-exceeds
returns-in-Ok-clause-exceeds g c = λ file_of agree run known.
    let same = same-asked (map string_bytes c.args.words.now) run (record { asked = c.in-Ok.asked; says = c.in-Ok.ensures.said }) in
    c.prepare_files.ensures.exceeds file_of agree (subst (λ name. ExceedsKnown (file_of name) c.in-Ok.asked.steps) (sym c.as_str.ensures)
    (subst (λ (w : LivesWords). ExceedsKnown (file_of w.workload) w.steps) same known))

pub returns-in-Some-clause-named : goal.returns-in-Some-clause-named
returns-in-Some-clause-named g c = if-refused c.prepare_about.result _ c.prepare_about.ensures.stop

pub returns-in-Ok-clause-named : goal.returns-in-Ok-clause-named
returns-in-Ok-clause-named g c =
    if-unread c.prepare_files.result _ (named (map string_bytes c.args.words.now) _ _ (said-as (map string_bytes c.args.words.now) c.in-Ok.asked _ _ c.as_str.ensures c.as_str-in-Ok.ensures c.in-Ok.ensures.said)
    c.prepare_files.ensures.begun)
