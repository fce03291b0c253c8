use Rattle.abt_laws.proofs.SoundRuns.{runs-are-sound}
use Rattle.abt_laws.proofs.LifeRuns.{run-life, run-unborn}
use Rattle.abt_laws.proofs.lives.life_is_the_journals.Goals as goal

pub returns : goal.returns
returns c W Z valid stored J u run declared = (
  run-life W Z (runs-are-sound W Z) valid stored u declared J run,
  run-unborn W Z (runs-are-sound W Z) valid stored u declared J run,
)
