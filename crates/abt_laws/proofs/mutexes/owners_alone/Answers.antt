use Rattle.abt_laws.proofs.Owning.{owners-alone}
use Rattle.abt_laws.proofs.mutexes.owners_alone.Goals as goal

pub returns : goal.returns
returns c = owners-alone
