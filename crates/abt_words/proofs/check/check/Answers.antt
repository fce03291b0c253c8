use Rattle.std.proofs.Common.{map, string_bytes}
use Rattle.abt_words.specs.Asked.{check_words, output_words}
use Rattle.abt_words.proofs.OneCommand.{check-said, no-check, output-said}
use Rattle.abt_words.proofs.check.check.Goals as goal

pub returns-in_default-output_asked-clause-bad : goal.returns-in_default-output_asked-clause-bad
returns-in_default-output_asked-clause-bad c =
    λ bad. no-check (map string_bytes c.args.rest.now) _ c.in_ok-found.ensures.found c.in_default.ensures c.in_default-output_asked.ensures

pub returns-in-Some-clause-said : goal.returns-in-Some-clause-said
returns-in-Some-clause-said c =
    check-said (map string_bytes c.args.rest.now) _ (check_words c.in-Some.asked) c.in_ok-words.words c.in_ok-words.ensures c.in_ok-found.ensures.found c.in-Some.ensures

pub returns-clause-said : goal.returns-clause-said
returns-clause-said c =
    output-said (map string_bytes c.args.rest.now) _ (output_words c.in-Some-output_asked.asked) c.in_ok-words-2.words c.in_ok-words-2.ensures c.in_ok-found.ensures.found
    c.in-Some-output_asked.ensures
