-- The bytes that were read, few or too many.
use Rattle.std.proofs.Common.{◌∙◌, ap, arith, subst}
use Rattle.abt_machine.specs.Words.{Text}
use Rattle.abt_streams.specs.Texts.{IsLivesCause, told}
use Rattle.abt_lives.proofs.Fetched.{seen-long, seen-reads, seen-refuses}
use Rattle.abt_lives.proofs.program.fetch_lives.Goals as goal

pub returns-then-len-gt-LIVES_LIMIT-clause-stop : goal.returns-then-len-gt-LIVES_LIMIT-clause-stop
returns-then-len-gt-LIVES_LIMIT-clause-stop g c = λ file_of agree.
    seen-long c.args.w.now (file_of c.args.file.now) c.in_ok-bytes.bytes.items (c.in_ok-bytes.ensures.bytes file_of agree) (omega (arith, c.len.ensures, c.if-len-gt-LIVES_LIMIT.true))

pub returns-in-Ok-clause-reads : goal.returns-in-Ok-clause-reads
returns-in-Ok-clause-reads g c = λ file_of agree.
    seen-reads c.args.w.now (file_of c.args.file.now) c.in_ok-bytes.bytes.items c.in-Ok.lives (c.in_ok-bytes.ensures.bytes file_of agree) (omega (arith, c.len.ensures, c.if-len-gt-LIVES_LIMIT.false))
    c.in-Ok.ensures.lives (c.in-Ok.ensures.text ∙ ap told c.deref.ensures.value)

pub returns-in-Err-Bad-clause-stop : goal.returns-in-Err-Bad-clause-stop
returns-in-Err-Bad-clause-stop g c = λ file_of agree.
    seen-refuses c.args.w.now (file_of c.args.file.now) c.in_ok-bytes.bytes.items c.in-Err-Bad.field-0 c.in-Err-Bad.line _ (c.in_ok-bytes.ensures.bytes file_of agree) (omega
    (arith, c.len.ensures, c.if-len-gt-LIVES_LIMIT.false))
    c.in-Err-Bad.field-0-is c.in-Err-Bad.line-is (subst (λ (bytes : Text). IsLivesCause c.args.w.now bytes c.in-Err-Bad.field-0) c.deref.ensures.value c.in-Err-Bad.ensures.cause) _ (rw c.deref-in-Err-Bad.ensures.value at c.line_hint.ensures)
