use Rattle.abt_calls.proofs.Replies.{allowed-is-answered}
use Rattle.abt_calls.proofs.allowed.allowed_is_answered.Goals as goal

pub returns : goal.returns
returns c = allowed-is-answered
