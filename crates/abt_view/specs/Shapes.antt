-- What a band shows, as parts of an svg: a stamp is 10 pixels wide.
use Rattle.std.specs.Prelude.{ℕ, ◌+◌, ◌-◌, ◌*◌, ◌/◌, ◌%◌, if◌then◌else◌, [], ◌++◌, codes, flat_map, min, Option, Some, None}
use Rattle.abt_machine.specs.declared.events.Event.{Event}
use Rattle.abt_machine.specs.declared.workload.Parts.{Parts}
use Rattle.abt_machine.specs.Words.{Text}
use Rattle.abt_view.specs.declared.arrows.Arrow.{Arrow}
use Rattle.abt_view.specs.declared.arrows.Spot.{Spot}
use Rattle.abt_view.specs.declared.bands.Band.{Band}
use Rattle.abt_view.specs.declared.frames.Frame.{Frame}
use Rattle.abt_view.specs.declared.stretches.Jump.{Jump}
use Rattle.abt_view.specs.declared.stretches.Stretch.{Stretch}
use Rattle.abt_view.specs.Arrows.{spot_of}
use Rattle.abt_view.specs.Bands.{is_in, lane_top}
use Rattle.abt_view.specs.Kinds.{kind_word}
use Rattle.abt_view.specs.Labels.{part_in, texts_of}
use Rattle.abt_view.specs.Named.{named_line}
use Rattle.abt_view.specs.Texts.{around}

-- The bar of a stretch: its colour by the last digit of the unit's number, its stripes by the digit before, the texts that a band shows,
-- and the lines of its events, each with the operation that it names, if there is a workload that has it.
abbrev pub bar_place : Stretch → Text
bar_place b = around (codes "<g class='u") (b.unit % 10) (codes "' transform='translate(") ++ (around [] b.since (codes "0 ") ++ around [] (lane_top b.stream) (codes ")'>"))

abbrev pub bar_shape : Stretch → Text
bar_shape b =
    around (codes "<rect width='") (b.until - b.since) (codes "8' height='20' rx='2'/>")
    ++ (around (codes "<rect class='t") (b.unit / 10 % 10) (codes "' width='") ++ around [] (b.until - b.since) (codes "8' height='20' rx='2'/>"))

-- a bar is hatched where the stamps of its stream jump
abbrev pub jump_text : ℕ → Jump → Text
jump_text since jump = around (codes "<rect class='jump' x='") (jump.from - since) (codes "9' width='") ++ around [] (jump.to - jump.from - 1) (codes "2' height='20'/>")

abbrev pub jumps_text : Stretch → Text
jumps_text b = flat_map (jump_text b.since) b.jumps

abbrev pub bar_title : Option Parts → Stretch → Text
bar_title names b = codes "<title>" ++ (flat_map (named_line names) b.events ++ codes "</title></g>\n")

abbrev pub bar_text : Band → Option Parts → Stretch → Text
bar_text band names b = bar_place b ++ (bar_shape b ++ (jumps_text b ++ (texts_of (part_in band b) names b ++ bar_title names b)))

abbrev pub bar_in : Band → Option Parts → Stretch → Text
bar_in band names b = if is_in band b.since b.until then bar_text band names b else []

-- by how many pixels a frame extends beyond the bars and marks within it: a deeper frame extends less
abbrev pub margin_of : Frame → ℕ
margin_of f = 6 - 2 * min f.depth 2

-- The frame of a stacked scheduler around what runs within it: from after its enter to before its leave.
abbrev pub frame_place : Frame → Text
frame_place f = around (codes "<rect class='frame' transform='translate(") f.since (codes "0 ") ++ around [] (lane_top f.stream) (codes ")' x='9' ")

abbrev pub frame_shape : Frame → Text
frame_shape f = around (codes "y='-") (margin_of f) (codes "' ") ++ (around (codes "width='") (f.until - f.since) (codes "2' ") ++ around (codes "height='") (32 + 2 * margin_of f) (codes "' rx='3'>"))

abbrev pub frame_text : Frame → Text
frame_text f = frame_place f ++ (frame_shape f ++ around (codes "<title>scheduler unit ") f.unit (codes "</title></rect>\n"))

abbrev pub frame_in : Band → Frame → Text
frame_in band f = if is_in band f.since f.until then frame_text f else []

-- the place of an event's mark
abbrev pub place_text : Spot → Text
place_text at = around (codes "' x='") at.stamp (codes "0' y='") ++ around [] (lane_top at.stream) (codes "'/>\n")

-- the mark of an event, whose shape shows its kind
abbrev pub mark_text : Event → Text
mark_text e = codes "<use href='#" ++ (kind_word e.what ++ place_text (spot_of e))

abbrev pub mark_in : Band → Event → Text
mark_in band e = if is_in band e.stamp e.stamp then mark_text e else []

-- a point below the mark of an event, `down` pixels below the top of its lane
abbrev pub point_text : Text → Spot → ℕ → Text → Text
point_text before at down after = around before at.stamp (codes "5 ") ++ around [] (lane_top at.stream + down) after

-- a line from event to event that names a unit
abbrev pub line_text : ℕ → Spot → Spot → Text
line_text u from to =
    point_text (codes "<path class='arrow' d='M") from 31 (codes "C")
    ++ (point_text [] from 39 (codes " ") ++ (point_text [] to 39 (codes " ") ++ (point_text [] to 31 (codes "'><title>unit ") ++ around [] u (codes "</title></path>\n"))))

-- a line that is seen while the pointer is on the mark of one of its events
abbrev pub quiet_text : ℕ → Spot → Spot → Text
quiet_text u from to = (codes "<g class='quiet'><use href='#spot" ++ place_text from) ++ ((codes "<use href='#spot" ++ place_text to) ++ (line_text u from to ++ codes "</g>\n"))

abbrev pub line_in : Band → ℕ → Spot → Spot → Text
line_in band u from to = if is_in band from.stamp to.stamp then line_text u from to else []

abbrev pub quiet_in : Band → ℕ → Spot → Spot → Text
quiet_in band u from to = if is_in band from.stamp to.stamp then quiet_text u from to else []

-- The lines of an arrow by its ends: a unit that was sent has a line from its sender to its put and from there to where it is taken, and
-- the line of any other is quiet.
abbrev pub lines_by : Band → Arrow → Option Spot → Option Spot → Text
lines_by band a None None = []
lines_by band a (Some sent) None = line_in band a.unit sent a.put
lines_by band a None (Some taken) = quiet_in band a.unit a.put taken
lines_by band a (Some sent) (Some taken) = line_in band a.unit sent a.put ++ line_in band a.unit a.put taken

abbrev pub lines_in : Band → Arrow → Text
lines_in band a = lines_by band a a.sent a.taken
