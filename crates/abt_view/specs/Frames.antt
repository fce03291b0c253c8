-- The frames of a stream: each is a time for which a stacked scheduler runs.
use Rattle.std.specs.Prelude.{ℕ, ◌-◌, ◌==◌, if◌then◌else◌, List, [], ◌∷◌, ◌++◌, flat_map, fold, length, map, reverse, slice_get, take, Option, Some, None}
use Rattle.std.specs.List.{range_with_len}
use Rattle.abt_machine.specs.declared.events.Event.{Event}
use Rattle.abt_machine.specs.declared.events.What.{What}
use Rattle.abt_machine.specs.declared.events.What.TheVariants as what
use Rattle.abt_view.specs.declared.frames.Frame.{Frame}
use Rattle.abt_view.specs.Stretches.{streams_in}

-- the frames that were left, the latest last, those that were not, from the outermost on, and the stream's last stamp
pub record NestValue : Type 0 where
  pub past : List Frame
  pub inside : List Frame
  pub last : ℕ

-- the frame that begins where a scheduler unit enters, within `depth` others
abbrev pub frame_begun : ℕ → Event → ℕ → Frame
frame_begun depth e u = record { stream = e.stream.0; unit = u; depth = depth; since = e.stamp; until = e.stamp }

-- the frame, ended at that stamp
abbrev pub lasting : ℕ → Frame → Frame
lasting t frame = record frame { until = t }

-- the innermost frame is left, if there is one
abbrev pub frame_left : NestValue → Option Frame → NestValue
frame_left nest None = nest
frame_left nest (Some frame) = record nest { past = nest.past ++ lasting nest.last frame ∷ []; inside = take (length nest.inside - 1) nest.inside }

-- the frames after an event of their stream: an enter begins one, and a leave ends the innermost
abbrev pub nested : NestValue → Event → What → NestValue
nested nest e (what.Miss p) = nest
nested nest e (what.Take p u) = nest
nested nest e (what.Look u) = nest
nested nest e (what.Step u k c) = nest
nested nest e (what.Call u k n) = nest
nested nest e (what.Put u p) = nest
nested nest e (what.End u c) = nest
nested nest e (what.Enter u) = record nest { inside = nest.inside ++ frame_begun (length nest.inside) e u.0 ∷ [] }
nested nest e (what.Leave u) = frame_left nest (slice_get nest.inside (length nest.inside - 1))

-- the frames of stream s after an event of any stream: that of another stream changes nothing
abbrev pub framed : ℕ → NestValue → Event → NestValue
framed s nest e = if e.stream.0 == s then record (nested nest e e.what) { last = e.stamp } else nest

-- the state before the first event
abbrev pub unnested : NestValue
unnested = record { past = []; inside = []; last = 0 }

-- all frames, each before those within it; one that is not left lasts to the stream's last event
abbrev pub frames_in : NestValue → List Frame
frames_in nest = map (lasting nest.last) nest.inside ++ reverse nest.past

-- the frames of stream s in a journal
abbrev pub frames_in_lane : List Event → ℕ → List Frame
frames_in_lane J s = frames_in (fold (framed s) unnested J)

-- the frames of the streams that a view shows
abbrev pub all_frames : List Event → List Frame
all_frames J = flat_map (frames_in_lane J) (range_with_len 0 (streams_in J))
