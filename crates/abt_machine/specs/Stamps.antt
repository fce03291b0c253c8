-- Stamps of events: a clock for each stream and each shared object. The words are those of abt_interleave's Stamps, which says what
-- they mean for anything that has a stamp, a stream and perhaps a place: an event's place is its site.
use Rattle.std.specs.Prelude.{ℕ, List}
use Rattle.abt_interleave.specs.Stamps as of
use Rattle.abt_machine.specs.declared.events.Event.{Event}
use Rattle.abt_machine.specs.declared.workload.Parts.{Parts}
use Rattle.abt_machine.specs.EventSites.{event_site}

-- an event's stamp
abbrev pub stamp_of : Event → ℕ
stamp_of e = e.stamp

-- the number of its stream
abbrev pub stream_of : Event → ℕ
stream_of e = e.stream.0

-- f follows e directly: the stamp doesn't fall, and rises by at most one; events of equal stamp stand in order of stream
abbrev pub Follows : Event → Event → Type 0
Follows e f = of.Follows stamp_of stream_of e f

module _ (W : Parts) where
  -- both events touch one object
  abbrev pub SameSite : Event → Event → Type 0
  SameSite e f = of.SamePlace (event_site W) e f

  -- the events have a stream or an object in common
  abbrev pub Shares : Event → Event → Type 0
  Shares e f = of.Shares stamp_of stream_of (event_site W) e f

  -- each of these has a greater stamp than e if it shares a stream or an object with it
  abbrev pub AllAfter : Event → List Event → Type 0
  AllAfter e fs = of.AllAfter stamp_of stream_of (event_site W) e fs

  -- these follow e, each directly after the one before, and their stamps rise strictly along each stream and each object
  abbrev pub StampedFrom : Event → List Event → Type 0
  StampedFrom e fs = of.StampedFrom stamp_of stream_of (event_site W) e fs

  -- stamps begin at 1, never fall, rise by at most one from event to event, and strictly along each stream and each object
  abbrev pub Stamped : List Event → Type 0
  Stamped J = of.Stamped stamp_of stream_of (event_site W) J

  -- the stamp is 1, or one more than that of an earlier event that shares a stream or an object with it
  abbrev pub IsLeast : List Event → Event → Type 0
  IsLeast earlier e = of.IsLeast stamp_of stream_of (event_site W) earlier e

  -- each of these has a stamp above those before it that share a stream or an object with it, and no greater one than it needs
  abbrev pub LamportFrom : List Event → List Event → Type 0
  LamportFrom earlier es = of.LamportFrom stamp_of stream_of (event_site W) earlier es

  -- stamped, and each stamp is one more than the greatest earlier stamp of its stream and of its object, 0 if there is none
  abbrev pub Lamport : List Event → Type 0
  Lamport J = of.Lamport stamp_of stream_of (event_site W) J
