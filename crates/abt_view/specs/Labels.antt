-- The texts in a bar: the number of its unit, and behind it the operations that have room.
use Rattle.std.specs.Prelude.{ℕ, ◌+◌, ◌-◌, ◌/◌, ◌&&◌, nat_le, nat_lt, Bool, if◌then◌else◌, List, [], ◌++◌, codes, fold, length, max, min, Option, Some, None}
use Rattle.abt_machine.specs.declared.workload.Parts.{Parts}
use Rattle.abt_machine.specs.Words.{Text}
use Rattle.abt_view.specs.declared.bands.Band.{Band}
use Rattle.abt_view.specs.declared.labels.Part.{Part}
use Rattle.abt_view.specs.declared.notes.Note.{Note}
use Rattle.abt_view.specs.declared.stretches.Stretch.{Stretch}
use Rattle.abt_view.specs.Named.{shown_of, xml_text}
use Rattle.abt_view.specs.Texts.{around}

-- the part of a bar that a band shows
abbrev pub part_in : Band → Stretch → Part
part_in band b = record { since = b.since; first = max b.since band.first; last = min b.until band.last }

-- the number of the bar's unit, at the first stamp that is shown
abbrev pub number_text : Part → ℕ → Text
number_text part u = around (codes "<text x='") (part.first - part.since) (codes "2' y='14'>") ++ around [] u (codes "</text>")

-- the last stamp that the number covers, a digit a stamp, counted from the first that is shown; no number of a unit has more than ten digits
abbrev pub number_end : ℕ → ℕ
number_end u = if nat_lt u 10 then 0 else if nat_lt u 100 then 1 else if nat_lt u 1000 then 2 else if nat_lt u 10000 then 3 else 9

-- the last stamp that the texts so far cover, counted from the first that is shown, and the operations among them
pub record RowValue : Type 0 where
  pub covered : ℕ
  pub text : Text

-- an operation at a stamp has room if the texts before it have ended, and it ends within the part; two of its bytes take a stamp
abbrev pub has_room : Part → ℕ → ℕ → Text → Bool
has_room part covered stamp operation = nat_lt covered (stamp - part.first) && nat_le (length operation / 2) (part.last - stamp)

-- an operation in a bar begins at the stamp of its event
abbrev pub label_text : Part → ℕ → Text → Text
label_text part stamp operation = around (codes "<text class='op' x='") (stamp - part.since) (codes "0' y='13'>") ++ (xml_text operation ++ codes "</text>")

-- the texts with the operation at a stamp, if there is one and it has room
abbrev pub labelled_by : Part → ℕ → RowValue → Option Text → RowValue
labelled_by part stamp row None = row
labelled_by part stamp row (Some operation) =
    if has_room part row.covered stamp operation
    then record { covered = stamp - part.first + length operation / 2; text = row.text ++ label_text part stamp operation }
    else row

abbrev pub labelled : Part → Option Parts → RowValue → Note → RowValue
labelled part names row n = labelled_by part n.event.stamp row (shown_of names n)

-- the operations of these events, from left to right, each if it has room behind the number of the unit and the operations before it
abbrev pub labels_text : Part → Option Parts → ℕ → List Note → Text
labels_text part names u events = (fold (labelled part names) (record { covered = number_end u; text = [] }) events).text

-- the texts in a bar
abbrev pub texts_of : Part → Option Parts → Stretch → Text
texts_of part names b = number_text part b.unit ++ labels_text part names b.unit b.events
