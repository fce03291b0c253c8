use Rattle.abt_calls.proofs.Lost.{waits-are-lost}
use Rattle.abt_calls.proofs.example.waits_are_lost.Goals as goal

pub returns : goal.returns
returns c = waits-are-lost
