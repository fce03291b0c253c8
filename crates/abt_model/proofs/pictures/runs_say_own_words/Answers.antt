use Rattle.abt_model.proofs.Saying.{runs-say-own-words}
use Rattle.abt_model.proofs.pictures.runs_say_own_words.Goals as goal

pub returns : goal.returns
returns c = runs-say-own-words
