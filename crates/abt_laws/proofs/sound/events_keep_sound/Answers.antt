use Rattle.abt_laws.proofs.SoundRuns.{events-keep-sound}
use Rattle.abt_laws.proofs.sound.events_keep_sound.Goals as goal

pub returns : goal.returns
returns c = events-keep-sound
