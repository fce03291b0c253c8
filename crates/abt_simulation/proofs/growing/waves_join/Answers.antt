-- One wave of streams more.
use Rattle.abt_interleave.proofs.Grown.{courses-join, histories-join, matched-join, gathered-join}
use Rattle.abt_simulation.specs.Merging.{machine_of}
use Rattle.abt_simulation.proofs.growing.waves_join.Goals as goal

pub returns-clause-course : goal.returns-clause-course
returns-clause-course c = λ W Z. courses-join (machine_of W Z)

pub returns-clause-history : goal.returns-clause-history
returns-clause-history c = λ W Z. histories-join (machine_of W Z)

pub returns-clause-fit : goal.returns-clause-fit
returns-clause-fit c = λ W Z. matched-join (machine_of W Z)

pub returns-clause-all : goal.returns-clause-all
returns-clause-all c = λ W Z. gathered-join (machine_of W Z)
