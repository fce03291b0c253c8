use Rattle.std.proofs.Common.{◌≡◌, ◌+◌, take}
use Rattle.std.specs.Prelude.{fold, max}
use Rattle.abt_machine.specs.declared.events.Event.{Event}
use Rattle.abt_view.proofs.stretches.count_streams.Given as goal

abbrev pub invariant-loop-event : goal.invariant-loop-event
invariant-loop-event l = l.count ≡ fold (λ n (e : Event). max n (e.stream.0 + 1)) 0 (take l.event-index l.journal)
