use Rattle.std.proofs.Common.{◌≡◌, take}
use Rattle.abt_view.specs.Notes.{noted}
use Rattle.abt_view.proofs.notes.take_notes.Given as goal

abbrev pub invariant-loop-at : goal.invariant-loop-at
invariant-loop-at l = l.notes.items ≡ noted (take l.at l.journal) l.pieces
