use Rattle.std.proofs.Common.{map, string_bytes}
use Rattle.abt_words.proofs.OneCommand.{no-explore}
use Rattle.abt_words.proofs.explore.explore.Goals as goal

pub returns-in_default-clause-bad : goal.returns-in_default-clause-bad
returns-in_default-clause-bad c = λ bad. no-explore (map string_bytes c.args.rest.now) _ c.in_ok-found.ensures.found c.in_default.ensures
