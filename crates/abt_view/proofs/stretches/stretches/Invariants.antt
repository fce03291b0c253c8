use Rattle.std.proofs.Common.{◌≡◌, take}
use Rattle.std.specs.List.{fold}
use Rattle.abt_view.specs.Stretches.{cut_at, uncut}
use Rattle.abt_view.proofs.stretches.stretches.Given as goal

abbrev pub invariant-loop-note : goal.invariant-loop-note
invariant-loop-note l = l.cut ≡ fold (cut_at l.s) uncut (take l.note-index l.notes)
