use Rattle.abt_flow.specs.Violations.{Clears}
use Rattle.abt_flow.proofs.confluence.Seen.look_through.Given as goal

abbrev pub invariant-loop-k : goal.invariant-loop-k
invariant-loop-k l = Clears l.w l.u.0 l.k l.self
