use Rattle.abt_laws.proofs.DueParts.{due-same}
use Rattle.abt_outcomes.proofs.values.parts_decide.Goals as goal

pub returns : goal.returns
returns c = due-same
