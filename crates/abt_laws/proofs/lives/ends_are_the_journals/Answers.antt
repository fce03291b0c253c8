use Rattle.abt_laws.proofs.SoundRuns.{runs-are-sound}
use Rattle.abt_laws.proofs.LifeOver.{ends-are-the-journals}
use Rattle.abt_laws.proofs.lives.ends_are_the_journals.Goals as goal

pub returns : goal.returns
returns c W Z = ends-are-the-journals W Z (runs-are-sound W Z)
