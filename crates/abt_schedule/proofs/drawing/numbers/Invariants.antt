use Rattle.std.proofs.Common.{◌≡◌}
use Rattle.abt_machine.specs.Lives.{count_up}
use Rattle.abt_schedule.proofs.drawing.numbers.Given as goal

abbrev pub invariant-loop-s : goal.invariant-loop-s
invariant-loop-s l = l.numbers.items ≡ count_up l.s
