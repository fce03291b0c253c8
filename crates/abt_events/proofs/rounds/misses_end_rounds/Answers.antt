use Rattle.abt_events.proofs.RoundEnds.{misses-end-rounds}
use Rattle.abt_events.proofs.rounds.misses_end_rounds.Goals as goal

pub returns : goal.returns
returns c = misses-end-rounds
