-- The trace of a journal, as JSON in the trace event format: a stamp is a microsecond.
use Rattle.std.specs.Prelude.{ℕ, ◌-◌, ◌/◌, ◌%◌, List, [], ◌++◌, codes, flat_map, Option, Some, None}
use Rattle.std.specs.List.{range_with_len}
use Rattle.abt_machine.specs.declared.events.Code.{Code}
use Rattle.abt_machine.specs.declared.events.Code.TheVariants as code
use Rattle.abt_machine.specs.declared.events.Event.{Event}
use Rattle.abt_machine.specs.declared.events.Piece.{Piece}
use Rattle.abt_machine.specs.declared.events.What.{What}
use Rattle.abt_machine.specs.declared.events.What.TheVariants as what
use Rattle.abt_machine.specs.declared.workload.Parts.{Parts}
use Rattle.abt_machine.specs.Words.{Text}
use Rattle.abt_view.specs.declared.arrows.Arrow.{Arrow}
use Rattle.abt_view.specs.declared.arrows.Spot.{Spot}
use Rattle.abt_view.specs.declared.notes.Note.{Note}
use Rattle.abt_view.specs.declared.stretches.Stretch.{Stretch}
use Rattle.abt_view.specs.Args.{args_text, unit_end}
use Rattle.abt_view.specs.Arrows.{arrows_of, spot_of}
use Rattle.abt_view.specs.Kinds.{kind_word}
use Rattle.abt_view.specs.Notes.{noted}
use Rattle.abt_view.specs.Stretches.{all_stretches, streams_in}
use Rattle.abt_view.specs.Texts.{around}

-- the name of a stream's track
abbrev pub track_name : ℕ → Text
track_name s = around (codes ",\n{\"ph\":\"M\",\"pid\":0,\"tid\":") s (codes ",\"name\":\"thread_name\",\"args\":{\"name\":\"stream ") ++ around [] s (codes "\"}}")

-- its place among the tracks, which are in order of stream
abbrev pub track_place : ℕ → Text
track_place s = around (codes ",\n{\"ph\":\"M\",\"pid\":0,\"tid\":") s (codes ",\"name\":\"thread_sort_index\",\"args\":{\"sort_index\":") ++ around [] s (codes "}}")

abbrev pub track_text : ℕ → Text
track_text s = track_name s ++ track_place s

-- the slice of a stretch, with its unit as its argument
abbrev pub slice_text : Stretch → Text
slice_text b =
    around (codes ",\n{\"ph\":\"X\",\"pid\":0,\"tid\":") b.stream (codes ",\"ts\":")
    ++ (around [] b.since (codes ".0,\"dur\":") ++ (around [] (b.until - b.since) (codes ".8,\"cat\":\"stretch\",\"name\":\"unit ") ++ unit_end b.unit))

-- the beginning of an item: its phase, the event's track, and a time at that fraction of a microsecond after the stamp
abbrev pub item_text : Text → Spot → Text → Text
item_text phase at fraction = codes ",\n{\"ph\":\"" ++ (phase ++ (around (codes "\",\"pid\":0,\"tid\":") at.stream (codes ",\"ts\":") ++ around [] at.stamp fraction))

-- the slice of an event, within that of its stretch, with its arguments: its unit, the operation that it names and the object of that, if
-- there is a workload that has it, the code of a step or the value of a call, and what a step put out
abbrev pub moment_text : Option Parts → Note → Text
moment_text names n =
    item_text (codes "X") (spot_of n.event) (codes ".1")
    ++ (codes ",\"dur\":0.6,\"cat\":\"event\",\"name\":\"" ++ (kind_word n.event.what ++ (codes "\"" ++ (args_text names n ++ codes "}"))))

-- the instant of an event
abbrev pub instant_text : Event → ℕ → Text
instant_text e u = item_text (codes "i") (spot_of e) (codes ".4") ++ (codes ",\"s\":\"t\",\"name\":\"" ++ (kind_word e.what ++ around (codes ", unit ") u (codes "\"}")))

-- the instant of a call, with the number that it returned
abbrev pub call_text : Event → ℕ → ℕ → Text
call_text e u n = item_text (codes "i") (spot_of e) (codes ".4") ++ (around (codes ",\"s\":\"t\",\"name\":\"call, unit ") u (codes ", returned ") ++ around [] n (codes "\"}"))

-- the beginning and the end of a stacked scheduler's frame
abbrev pub enter_text : Event → ℕ → Text
enter_text e u = item_text (codes "B") (spot_of e) (codes ".9") ++ (codes ",\"cat\":\"frame\",\"name\":\"scheduler unit " ++ unit_end u)

abbrev pub leave_text : Event → Text
leave_text e = item_text (codes "E") (spot_of e) (codes ".9") ++ codes "}"

abbrev pub step_more : Event → ℕ → Code → Text
step_more e u code.Ok = []
step_more e u _ = instant_text e u

-- what an event has besides its slice: an enter and a leave the ends of a frame, an end, a refused step and a call an instant
abbrev pub more_text : Event → What → Text
more_text e (what.Miss p) = []
more_text e (what.Take p u) = []
more_text e (what.Look u) = []
more_text e (what.Step u k c) = step_more e u.0 c
more_text e (what.Call u k n) = call_text e u.0 n
more_text e (what.Put u p) = []
more_text e (what.End u c) = instant_text e u.0
more_text e (what.Enter u) = enter_text e u.0
more_text e (what.Leave u) = leave_text e

abbrev pub event_text : Option Parts → Note → Text
event_text names n = moment_text names n ++ more_text n.event n.event.what

-- a point of an arrow, in the slice of an event; its identifier is a string of the stamp of the put, followed by the stream in two digits
abbrev pub point_text : Text → Arrow → Spot → Text
point_text phase a at =
    item_text phase at (codes ".4")
    ++ (around (codes ",\"bp\":\"e\",\"cat\":\"pool\",\"name\":\"unit ") a.unit (codes "\",\"id\":\"") ++ (around [] a.put.stamp [] ++ (around [] (a.put.stream / 10) [] ++ around [] (a.put.stream % 10) (codes "\"}"))))

-- the points of an arrow: the event that sent the unit, if there is one, the put, and the event that takes it, if there is one; an arrow
-- whose only point is its put is left out
abbrev pub arrow_text : Arrow → Option Spot → Option Spot → Text
arrow_text a None None = []
arrow_text a (Some sent) None = point_text (codes "s") a sent ++ point_text (codes "f") a a.put
arrow_text a None (Some taken) = point_text (codes "s") a a.put ++ point_text (codes "f") a taken
arrow_text a (Some sent) (Some taken) = point_text (codes "s") a sent ++ (point_text (codes "t") a a.put ++ point_text (codes "f") a taken)

abbrev pub points_text : Arrow → Text
points_text a = arrow_text a a.sent a.taken

-- the trace
abbrev pub trace_text : Option Parts → List (Option Piece) → List Event → Text
trace_text names pieces J =
    codes "{\"traceEvents\":[\n{\"ph\":\"M\",\"pid\":0,\"name\":\"process_name\",\"args\":{\"name\":\"abtrun\"}}" ++ (flat_map track_text (range_with_len 0 (streams_in J)) ++ (flat_map slice_text (all_stretches (streams_in J) (noted J pieces)) ++ (flat_map (event_text names) (noted J pieces) ++ (flat_map points_text (arrows_of J) ++ codes "\n]}\n"))))
