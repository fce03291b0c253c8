use Rattle.abt_laws.proofs.SoundStart.{start-is-sound}
use Rattle.abt_laws.proofs.sound.start_is_sound.Goals as goal

pub returns : goal.returns
returns c = start-is-sound
