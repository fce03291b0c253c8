use Rattle.std.proofs.Common.{◌∙◌, arith, length, sym}
use Rattle.std.proofs.lemmas.Bool.{le-ltb}
use Rattle.abt_machine.specs.Grammar.{format_of}
use Rattle.abt_machine.specs.Spelling.{lines_of}
use Rattle.abt_workload.proofs.Seen.{least-bytes, most}
use Rattle.abt_workload.proofs.reading.is_too_long.Goals as goal

pub returns-else-bytes-text_limit : goal.returns-else-bytes-text_limit
returns-else-bytes-text_limit c =
    let text = c.args.bytes.now in
    let short = c.if-bytes-text_limit.false in
    let least = least-bytes (format_of (lines_of text)) in
    le-ltb _ _ short ∙ sym (le-ltb (most text) (length text) (omega (arith, short, least, c.text_limit.ensures)))
