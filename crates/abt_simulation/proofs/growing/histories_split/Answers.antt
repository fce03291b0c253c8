-- A history of all objects gives one of each.
use Rattle.abt_interleave.proofs.Histories.{history-splits}
use Rattle.abt_simulation.specs.Merging.{machine_of}
use Rattle.abt_simulation.proofs.growing.histories_split.Goals as goal

pub returns : goal.returns
returns c = λ W Z. history-splits (machine_of W Z)
