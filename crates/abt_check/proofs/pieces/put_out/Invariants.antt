use Rattle.std.proofs.Common.{◌≡◌, take}
use Rattle.abt_machine.specs.Start.{start}
use Rattle.abt_check.specs.Pieces.{IsReplayed, pieces_from}
use Rattle.abt_check.proofs.pieces.put_out.Given as goal

abbrev pub invariant-loop-event : goal.invariant-loop-event
invariant-loop-event l = IsReplayed l.w (take l.event-index l.journal) l.model × (l.pieces.items ≡ pieces_from l.w (start l.w) (take l.event-index l.journal))
