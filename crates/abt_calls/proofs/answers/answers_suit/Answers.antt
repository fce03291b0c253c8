use Rattle.abt_calls.proofs.Suited.{answers-suit}
use Rattle.abt_calls.proofs.answers.answers_suit.Goals as goal

pub returns : goal.returns
returns c = answers-suit
