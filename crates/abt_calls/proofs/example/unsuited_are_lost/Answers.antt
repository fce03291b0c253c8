use Rattle.abt_calls.proofs.Lost.{unsuited-are-lost}
use Rattle.abt_calls.proofs.example.unsuited_are_lost.Goals as goal

pub returns : goal.returns
returns c = unsuited-are-lost
