use Rattle.std.proofs.Common.{◌≡◌, take}
use Rattle.abt_view.specs.Kinds.{greatest_stamp}
use Rattle.abt_view.proofs.kinds.greatest_stamp.Given as goal

abbrev pub invariant-loop-event : goal.invariant-loop-event
invariant-loop-event l = l.last ≡ greatest_stamp (take l.event-index l.journal)
