use Rattle.abt_bounds.proofs.JournalTexts.{journal-texts-differ}
use Rattle.abt_bounds.proofs.texts.journal_texts_differ.Goals as goal

pub returns : goal.returns
returns c = journal-texts-differ
