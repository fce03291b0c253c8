use Rattle.std.proofs.Common.{◌≡◌, [], take}
use Rattle.std.specs.List.{fold}
use Rattle.abt_view.specs.Labels.{labelled, number_end}
use Rattle.abt_view.proofs.labels.labels.Given as goal

abbrev pub invariant-loop-note : goal.invariant-loop-note
invariant-loop-note l = l.row ≡ fold (labelled l.part l.names) (record { covered = number_end l.bar.unit; text = [] }) (take l.note-index l.bar.events)
