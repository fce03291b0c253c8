use Rattle.std.proofs.Common.{map, string_bytes}
use Rattle.abt_words.proofs.OneCommand.{no-self}
use Rattle.abt_words.proofs.self_run.self_run.Goals as goal

pub returns-clause-bad : goal.returns-clause-bad
returns-clause-bad c = λ bad. no-self (map string_bytes c.args.rest.now) _ c.in_ok-found.ensures.found c.in-None.ensures
