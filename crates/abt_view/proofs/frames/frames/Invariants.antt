use Rattle.std.proofs.Common.{◌≡◌, take}
use Rattle.std.specs.List.{fold}
use Rattle.abt_view.specs.Frames.{framed, unnested}
use Rattle.abt_view.proofs.frames.frames.Given as goal

abbrev pub invariant-loop-event : goal.invariant-loop-event
invariant-loop-event l = l.nest ≡ fold (framed l.s) unnested (take l.event-index l.journal)
