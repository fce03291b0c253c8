use Rattle.abt_replay.proofs.keys.objects_are_told.Goals as goal
use Rattle.abt_replay.proofs.Told.{objects}

pub returns : goal.returns
returns c = objects
