use Rattle.abt_orderly.specs.Passing.{AllPass, work_left}
use Rattle.abt_orderly.proofs.passing.Passing.pass_all.Given as goal

abbrev pub invariant-loop-u : goal.invariant-loop-u
invariant-loop-u l = AllPass l.w l.self

abbrev pub decreases-loop-u : goal.decreases-loop-u
decreases-loop-u l = work_left l.w l.self
