use Rattle.abt_machine.specs.Start.{start}
use Rattle.abt_laws.proofs.RunParts.{last_state-sound}
use Rattle.abt_laws.proofs.SoundRuns.{runs-are-sound}
use Rattle.abt_outcomes.proofs.Counted.{stamped-counted}
use Rattle.abt_outcomes.proofs.Determined.{only-run}
use Rattle.abt_outcomes.proofs.one_stream.stops_are_one.Goals as goal

pub returns : goal.returns
returns c W Z valid stored one none n J run stamped goes =
    only-run W Z n J
    (record { one_stream = one; no_free = none; sound = λ K other. last_state-sound W Z K (runs-are-sound W Z) valid stored other })
    run (stamped-counted W Z (start W) J one run stamped) goes
