-- The machine is one of streams and objects, as merging wants it.
use Rattle.abt_simulation.proofs.Merged.{tells-sites, is-simulated}
use Rattle.abt_simulation.proofs.merging.is_machine.Goals as goal

pub returns-clause-sites_apart : goal.returns-clause-sites_apart
returns-clause-sites_apart c = tells-sites

pub returns-clause-steps : goal.returns-clause-steps
returns-clause-steps c = is-simulated
