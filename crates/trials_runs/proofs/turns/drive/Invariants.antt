use Rattle.std.proofs.Common.{◌≡◌}
use Rattle.abt_stream.specs.Streams.{FitsStream}
use Rattle.trials_runs.proofs.turns.drive.Given as goal

abbrev pub invariant-turns : goal.invariant-turns
invariant-turns g l = FitsStream l.w l.stream × (l.pass.workload ≡ l.w)
