use Rattle.std.proofs.Common.{◌≡◌, take}
use Rattle.std.specs.List.{fold}
use Rattle.abt_view.specs.Arrows.{at_start, followed, units_in}
use Rattle.abt_view.proofs.arrows.all_arrows.Given as goal

abbrev pub invariant-loop-event : goal.invariant-loop-event
invariant-loop-event l = l.ways ≡ fold followed (at_start (units_in l.journal)) (take l.event-index l.journal)
