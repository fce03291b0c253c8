use Rattle.abt_bounds.proofs.JournalTexts.{long-numbers-coincide}
use Rattle.abt_bounds.proofs.texts.long_numbers_coincide.Goals as goal

pub returns : goal.returns
returns c = long-numbers-coincide
