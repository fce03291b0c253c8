-- The event may come after the run, and leads to the same but for the numbers of rounds.
use Rattle.abt_explore.proofs.Reaching.{done-reached}
use Rattle.abt_explore.proofs.laws.done_is_reached.Goals as goal

pub returns : goal.returns
returns c = λ W Z keeps J model new s w reached declared done. done-reached W Z keeps J model reached new s w declared done
