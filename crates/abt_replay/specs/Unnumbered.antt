-- Frames, streams and what streams hold once the numbers of rounds are forgotten.
use Rattle.std.specs.Prelude.{map}
use Rattle.abt_machine.specs.State.{Frame, Stream}
use Rattle.abt_machine.specs.Values.{Held}

-- the frame at round 0, with all else as it is
abbrev pub unnumbered_frame : Frame → Frame
unnumbered_frame f = record f { round = 0 }

-- each frame of the stream is at round 0
abbrev pub unnumbered : Stream → Stream
unnumbered own = record own { top = unnumbered_frame own.top; below = map unnumbered_frame own.below }

-- each frame of what a stream holds is at round 0
abbrev pub unnumbered_held : Held → Held
unnumbered_held held = record held { own = unnumbered held.own }
