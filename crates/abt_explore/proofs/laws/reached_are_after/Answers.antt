-- The last state of a run is sound, also without the numbers of rounds.
use Rattle.abt_explore.proofs.Reaching.{reached-after}
use Rattle.abt_explore.proofs.laws.reached_are_after.Goals as goal

pub returns : goal.returns
returns c = λ W Z valid stored keeps J model reached. reached-after W Z keeps J model reached valid stored
