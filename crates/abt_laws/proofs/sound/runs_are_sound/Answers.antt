use Rattle.abt_laws.proofs.SoundRuns.{runs-are-sound}
use Rattle.abt_laws.proofs.sound.runs_are_sound.Goals as goal

pub returns : goal.returns
returns c = runs-are-sound
