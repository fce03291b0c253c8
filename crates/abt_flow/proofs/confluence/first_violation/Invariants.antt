use Rattle.abt_flow.specs.Violations.{Clears}
use Rattle.abt_flow.proofs.confluence.first_violation.Given as goal

abbrev pub invariant-loop-u : goal.invariant-loop-u
invariant-loop-u l = Clears l.w l.u 0 l.seen
