use Rattle.std.proofs.Common.{◌≡◌, drop, map}
use Rattle.abt_machine.specs.Checks.{places}
use Rattle.abt_machine.specs.declared.numbers.SchedNo.{SchedNo}
use Rattle.abt_machine.proofs.validity.take_main_places.Given as goal

abbrev pub invariant-loop-g : goal.invariant-loop-g
invariant-loop-g l = places (map (λ (g : SchedNo). g.0) (drop l.g-index l.mains)) l.taken ≡ places (map (λ (g : SchedNo). g.0) l.mains) l.initial.taken
