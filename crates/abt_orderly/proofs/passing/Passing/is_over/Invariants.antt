use Rattle.std.proofs.Common.{ℕ, ◌<◌}
use Rattle.abt_flow.specs.Finishing.{op_count}
use Rattle.abt_orderly.specs.Passing.{done_at}
use Rattle.abt_orderly.proofs.passing.Passing.is_over.Given as goal

abbrev pub invariant-loop-u : goal.invariant-loop-u
invariant-loop-u l = (v : ℕ) → v < l.u → op_count l.w v < done_at l.self.done.items v
