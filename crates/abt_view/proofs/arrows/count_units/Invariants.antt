use Rattle.std.proofs.Common.{◌≡◌, take}
use Rattle.std.specs.Prelude.{fold, max}
use Rattle.abt_machine.specs.declared.events.Event.{Event}
use Rattle.abt_machine.specs.Lives.{unit_of}
use Rattle.abt_view.specs.Arrows.{units_to}
use Rattle.abt_view.proofs.arrows.count_units.Given as goal

abbrev pub invariant-loop-event : goal.invariant-loop-event
invariant-loop-event l = l.count ≡ fold (λ n (e : Event). max n (units_to (unit_of e.what))) 0 (take l.event-index l.journal)
