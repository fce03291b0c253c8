use Rattle.abt_laws.proofs.SoundRuns.{runs-are-sound}
use Rattle.abt_laws.proofs.Falls.{events-fall}
use Rattle.abt_laws.proofs.measure.events_fall.Goals as goal

pub returns : goal.returns
returns c W Z = events-fall W Z (runs-are-sound W Z)
