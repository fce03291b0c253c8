use Rattle.std.proofs.Common.{ℕ, ◌<◌}
use Rattle.abt_flow.specs.Tables.{IsDone}
use Rattle.abt_flow.proofs.finding.is_done.Given as goal

abbrev pub invariant-loop-u : goal.invariant-loop-u
invariant-loop-u l = (v : ℕ) → v < l.u → IsDone l.w l.units v
