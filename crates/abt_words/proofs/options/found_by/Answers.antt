use Rattle.clap.proofs.WalkLemmas.{both}
use Rattle.abt_words.proofs.options.found_by.Goals as goal

pub returns-clause-finds : goal.returns-clause-finds
returns-clause-finds c = (c.in_ok-found.ensures.matches (both _ _ c.requires).0).0
