use Rattle.abt_laws.proofs.SoundRuns.{runs-are-sound}
use Rattle.abt_laws.proofs.LifeRuns.{runs-live}
use Rattle.abt_laws.proofs.lives.runs_live.Goals as goal

pub returns : goal.returns
returns c W Z = runs-live W Z (runs-are-sound W Z)
