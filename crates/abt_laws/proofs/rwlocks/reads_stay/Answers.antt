use Rattle.abt_laws.proofs.Reading.{reads-stay}
use Rattle.abt_laws.proofs.rwlocks.reads_stay.Goals as goal

pub returns : goal.returns
returns c = reads-stay
