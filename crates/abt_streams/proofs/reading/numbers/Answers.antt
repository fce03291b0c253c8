use Rattle.std.proofs.Common.{Some, None, sym}
use Rattle.abt_streams.proofs.Words.{begins-cut, ends-cut, stream-cut, word-cut}
use Rattle.abt_streams.proofs.reading.numbers.Goals as goal

pub returns-in_err-stream : goal.returns-in_err-stream
returns-in_err-stream c = λ life fits is.
    let word = word-cut life c.args.line.now (Some (c.in_ok-numbers.field-0-0, c.in_ok-numbers.numbers)) is c.in_ok-numbers.ensures.cases in
    absurd (stream-cut life c.in_ok-numbers.numbers.now None fits word c.in_err-stream.ensures.cases)

pub returns-in_err-begins : goal.returns-in_err-begins
returns-in_err-begins c = λ life fits is.
    let word = word-cut life c.args.line.now (Some (c.in_ok-numbers.field-0-0, c.in_ok-numbers.numbers)) is c.in_ok-numbers.ensures.cases in
    let stream = stream-cut life c.in_ok-numbers.numbers.now (Some (c.in_ok-stream.stream, c.in_ok-stream.objects)) fits word c.in_ok-stream.ensures.cases in
    absurd (begins-cut life c.in_ok-stream.objects.now None fits stream.1 c.in_err-begins.ensures.cases)

pub returns-in_err-ends : goal.returns-in_err-ends
returns-in_err-ends c = λ life fits is.
    let word = word-cut life c.args.line.now (Some (c.in_ok-numbers.field-0-0, c.in_ok-numbers.numbers)) is c.in_ok-numbers.ensures.cases in
    let stream = stream-cut life c.in_ok-numbers.numbers.now (Some (c.in_ok-stream.stream, c.in_ok-stream.objects)) fits word c.in_ok-stream.ensures.cases in
    let begins = begins-cut life c.in_ok-stream.objects.now (Some (c.in_ok-begins.begins, c.in_ok-begins.end)) fits stream.1 c.in_ok-begins.ensures.cases in
    absurd (ends-cut life c.in_ok-begins.end.now None fits begins.1 c.in_err-ends.ensures.cases)

pub returns : goal.returns
returns c = λ life fits is.
    let word = word-cut life c.args.line.now (Some (c.in_ok-numbers.field-0-0, c.in_ok-numbers.numbers)) is c.in_ok-numbers.ensures.cases in
    let stream = stream-cut life c.in_ok-numbers.numbers.now (Some (c.in_ok-stream.stream, c.in_ok-stream.objects)) fits word c.in_ok-stream.ensures.cases in
    let begins = begins-cut life c.in_ok-stream.objects.now (Some (c.in_ok-begins.begins, c.in_ok-begins.end)) fits stream.1 c.in_ok-begins.ensures.cases in
    let ends = ends-cut life c.in_ok-begins.end.now (Some (c.in_ok-ends.ends, c.in_ok-ends.field-0-1)) fits begins.1 c.in_ok-ends.ensures.cases in
    record { stream_is = sym stream.0; begins_is = sym begins.0; ends_is = sym ends.0 }
