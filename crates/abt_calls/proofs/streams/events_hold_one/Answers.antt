use Rattle.abt_calls.proofs.Turns.{events-hold-one}
use Rattle.abt_calls.proofs.streams.events_hold_one.Goals as goal

pub returns : goal.returns
returns c = events-hold-one
