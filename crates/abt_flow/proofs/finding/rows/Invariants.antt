use Rattle.std.proofs.Common.{◌≡◌, map}
use Rattle.abt_flow.specs.declared.memory.Progress.{Progress}
use Rattle.abt_flow.proofs.finding.rows.Given as goal

abbrev pub invariant-rows : goal.invariant-rows
invariant-rows l = l.rows.items ≡ map (λ (p : Progress). p.output.items) l.yielded
