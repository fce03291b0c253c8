use Rattle.std.proofs.Common.{◌∙◌, sym, ap, subst, Some, Err, decimal, arith}
use Rattle.std.specs.Str.{IsUtf8}
use Rattle.std.proofs.lemmas.Fmt.{IsAscii-decimal, parse-decimal}
use Rattle.std.proofs.lemmas.Str.{IsUtf8-from_ascii}
use Rattle.abt_report.proofs.Guessing.{ok-same}
use Rattle.abt_report.proofs.guesses.long.Goals as goal

pub returns-in_default : goal.returns-in_default
returns-in_default c = λ n fits is. absurd (c.in_default.ensures.cases.0 (subst IsUtf8 is (IsUtf8-from_ascii (decimal n) (IsAscii-decimal n (omega arith)))))

pub returns-in_default-parse : goal.returns-in_default-parse
returns-in_default-parse c = λ n fits is.
    let whole = parse-decimal 64 n c.in-Ok.text.now (Err c.in_default-parse.field-0) fits (omega arith) (c.in-Ok.ensures.cases.0 ∙ sym is) c.in_default-parse.ensures.value.0 in
    cc

pub returns : goal.returns
returns c = λ n fits is.
    let whole = parse-decimal 64 n c.in-Ok.text.now c.parse.result fits (omega arith) (c.in-Ok.ensures.cases.0 ∙ sym is) c.parse.ensures.value.0 in
    ap Some (ok-same c.in-Ok-parse.n n c.parse.result c.in-Ok-parse.is whole)
