use Rattle.std.proofs.Common.{sym, arith}
use Rattle.std.proofs.lemmas.Fmt.{parse-decimal}
use Rattle.abt_streams.proofs.reading.number.Goals as goal

pub returns : goal.returns
returns c = λ n fits is.
    let whole = parse-decimal 32 n c.args.word.now c.parse.result fits (omega arith) (sym is) c.parse.ensures.value.0 in
    rw whole at c.ok.ensures.value
