use Rattle.std.proofs.Common.{◌≡◌, drop}
use Rattle.std.specs.List.{list_all}
use Rattle.abt_machine.specs.Faults.{is_within}
use Rattle.abt_workload.proofs.judge.all_within.Given as goal

abbrev pub invariant-loop-number : goal.invariant-loop-number
invariant-loop-number l = list_all (λ p. is_within l.format p.0 p.1) (drop l.number-index l.numbers) ≡ list_all (λ p. is_within l.format p.0 p.1) l.numbers
