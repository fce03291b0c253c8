-- The way that is left leads to the cycle.
use Rattle.std.proofs.Common.{◌≡◌, ◌-◌, ◌++◌, length, option_map}
use Rattle.abt_why.specs.Cycles.{cycle_from, way_to}
use Rattle.abt_why.proofs.cycles.cycle_from.Given as goal

abbrev pub invariant-loop : goal.invariant-loop
invariant-loop l = option_map (λ vs. l.units.items ++ vs) (way_to l.awaited l.u (length l.awaited - l.counter) l.next) ≡ cycle_from l.awaited l.u
