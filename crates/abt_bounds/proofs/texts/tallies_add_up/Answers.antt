use Rattle.abt_bounds.proofs.Tallying.{tallies-add-up}
use Rattle.abt_bounds.proofs.texts.tallies_add_up.Goals as goal

pub returns : goal.returns
returns c = tallies-add-up
