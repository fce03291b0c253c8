use Rattle.abt_replay.proofs.keys.lanes_are_told.Goals as goal
use Rattle.abt_replay.proofs.Told.{lane}

pub returns : goal.returns
returns c = lane
