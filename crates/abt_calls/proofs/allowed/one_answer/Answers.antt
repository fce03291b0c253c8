use Rattle.abt_calls.proofs.Replies.{one-answer}
use Rattle.abt_calls.proofs.allowed.one_answer.Goals as goal

pub returns : goal.returns
returns c = one-answer
