use Rattle.abt_laws.proofs.SoundRuns.{events-keep-sound, runs-are-sound}
use Rattle.abt_laws.proofs.QuietRuns.{quiet-runs-miss}
use Rattle.abt_laws.proofs.outcome.quiet_runs_miss.Goals as goal

pub returns : goal.returns
returns c W Z = quiet-runs-miss W Z (events-keep-sound W Z) (runs-are-sound W Z)
