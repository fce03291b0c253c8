-- One turn of a stream more.
use Rattle.abt_interleave.proofs.Grown.{course-grows, legal-grows, matched-grows, gathered-grows}
use Rattle.abt_simulation.specs.Merging.{machine_of}
use Rattle.abt_simulation.proofs.growing.turns_extend.Goals as goal

pub returns-clause-course : goal.returns-clause-course
returns-clause-course c = λ W Z. course-grows (machine_of W Z)

pub returns-clause-history : goal.returns-clause-history
returns-clause-history c = λ W Z. legal-grows (machine_of W Z)

pub returns-clause-fit : goal.returns-clause-fit
returns-clause-fit c = λ W Z. matched-grows (machine_of W Z)

pub returns-clause-all : goal.returns-clause-all
returns-clause-all c = λ W Z. gathered-grows (machine_of W Z)
