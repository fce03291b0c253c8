use Rattle.std.proofs.Common.{sym, ◌∙◌}
use Rattle.abt_laws.proofs.outcome.one_after.Goals as goal

pub returns : goal.returns
returns c W Z S T U e a b = a.2 ∙ sym b.2
