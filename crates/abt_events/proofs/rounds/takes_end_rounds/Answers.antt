use Rattle.abt_events.proofs.RoundEnds.{takes-end-rounds}
use Rattle.abt_events.proofs.rounds.takes_end_rounds.Goals as goal

pub returns : goal.returns
returns c = takes-end-rounds
