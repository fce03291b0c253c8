use Rattle.abt_service.proofs.Reading.{readers-exclude-writers}
use Rattle.abt_service.proofs.rwlocks.readers_exclude_writers.Goals as goal

pub returns : goal.returns
returns c = readers-exclude-writers
