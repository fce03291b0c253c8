-- The lines so far, and those that are left.
use Rattle.std.proofs.Common.{◌≡◌, ◌++◌, drop}
use Rattle.abt_why.specs.Texts.{wait_lines}
use Rattle.abt_why.proofs.texts.push_waits.Given as goal

abbrev pub invariant-loop-u : goal.invariant-loop-u
invariant-loop-u l = l.out.items ++ wait_lines l.u (drop l.u l.waits) ≡ l.fn.out.items ++ wait_lines 0 l.waits
