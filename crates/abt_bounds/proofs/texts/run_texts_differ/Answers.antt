use Rattle.abt_bounds.proofs.Naming.{run-texts-differ}
use Rattle.abt_bounds.proofs.texts.run_texts_differ.Goals as goal

pub returns : goal.returns
returns c = run-texts-differ
