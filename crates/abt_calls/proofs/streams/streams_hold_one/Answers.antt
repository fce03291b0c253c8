use Rattle.abt_calls.proofs.Turns.{streams-hold-one}
use Rattle.abt_calls.proofs.streams.streams_hold_one.Goals as goal

pub returns : goal.returns
returns c = streams-hold-one
