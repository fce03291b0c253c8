-- The arrows of a journal: each leads a unit from the event that sent it to a pool, by its put, to where it is taken.
use Rattle.std.specs.Prelude.{ℕ, ◌+◌, ◌==◌, if◌then◌else◌, List, [], ◌∷◌, ◌++◌, flat_map, fold, get_or, max, min, replicate, slice_set, Option, Some, None}
use Rattle.abt_machine.specs.declared.events.Event.{Event}
use Rattle.abt_machine.specs.declared.events.What.{What}
use Rattle.abt_machine.specs.declared.events.What.TheVariants as what
use Rattle.abt_machine.specs.declared.grammar.Format.TheVariants as format
use Rattle.abt_machine.specs.Limits.{stream_limit, unit_limit}
use Rattle.abt_machine.specs.Lives.{unit_of}
use Rattle.abt_view.specs.declared.arrows.Arrow.{Arrow}
use Rattle.abt_view.specs.declared.arrows.Sender.{Sender}
use Rattle.abt_view.specs.declared.arrows.Spot.{Spot}

-- where an event is
abbrev pub spot_of : Event → Spot
spot_of e = record { stream = e.stream.0; stamp = e.stamp }

-- the last event of each stream that is not a put, if it names a unit; the arrow of each unit's put that no take or look has followed, if
-- there is one; and the arrows that have ended
pub record WaysValue : Type 0 where
  pub senders : List (Option Sender)
  pub waiting : List (Option Arrow)
  pub past : List Arrow

-- the event that sent unit u to the tray: the stream's last one that is not a put, if it is of another unit
abbrev pub sent_by : Option Sender → ℕ → Option Spot
sent_by None u = None
sent_by (Some sender) u = if sender.unit == u then None else Some sender.spot

-- the open arrow, if there is one, with its end at a take or a look, or without an end
abbrev pub ended_at : Option Spot → Option Arrow → List Arrow
ended_at at None = []
ended_at at (Some arrow) = record arrow { taken = at } ∷ []

-- the open arrow of unit u, if there is one, ends, and another takes its place
abbrev pub replaced : ℕ → Option Spot → Option Arrow → WaysValue → WaysValue
replaced u at new ways = record ways { waiting = slice_set ways.waiting u new; past = ways.past ++ ended_at at (get_or ways.waiting u None) }

-- the last event of stream s that is not a put is noted
abbrev pub noted : ℕ → Option Sender → WaysValue → WaysValue
noted s sender ways = record ways { senders = slice_set ways.senders s sender }

-- an event of unit u that is not a put is noted
abbrev pub sent : Event → ℕ → WaysValue → WaysValue
sent e u ways = noted e.stream.0 (Some (record { unit = u; spot = spot_of e })) ways

-- unit u is taken, or looked at
abbrev pub taken : Event → ℕ → WaysValue → WaysValue
taken e u ways = sent e u (replaced u (Some (spot_of e)) None ways)

-- the arrow that begins with a put of unit u
abbrev pub begun : Event → ℕ → WaysValue → Arrow
begun e u ways = record { unit = u; sent = sent_by (get_or ways.senders e.stream.0 None) u; put = spot_of e; taken = None }

-- the arrows after an event
abbrev pub met : WaysValue → Event → What → WaysValue
met ways e (what.Miss p) = noted e.stream.0 None ways
met ways e (what.Take p u) = taken e u.0 ways
met ways e (what.Look u) = taken e u.0 ways
met ways e (what.Step u k c) = sent e u.0 ways
met ways e (what.Call u k n) = sent e u.0 ways
met ways e (what.Put u p) = replaced u.0 None (Some (begun e u.0 ways)) ways
met ways e (what.End u c) = sent e u.0 ways
met ways e (what.Enter u) = sent e u.0 ways
met ways e (what.Leave u) = sent e u.0 ways

abbrev pub followed : WaysValue → Event → WaysValue
followed ways e = met ways e e.what

-- how many numbers of units there are up to this, at most as many as a workload may have; 0 if there is none
abbrev pub units_to : Option ℕ → ℕ
units_to None = 0
units_to (Some u) = min (unit_limit format.Three) (u + 1)

-- how many there are up to the greatest that the journal names
abbrev pub units_in : List Event → ℕ
units_in J = fold (λ n (e : Event). max n (units_to (unit_of e.what))) 0 J

-- the state before the first event, for as many streams as a workload may have, and for so many units
abbrev pub at_start : ℕ → WaysValue
at_start units = record { senders = replicate (stream_limit format.Three) None; waiting = replicate units None; past = [] }

-- the arrows that ended, in the order of their ends, and then those that did not, in order of unit
abbrev pub arrows_in : WaysValue → List Arrow
arrows_in ways = ways.past ++ flat_map (ended_at None) ways.waiting

abbrev pub arrows_of : List Event → List Arrow
arrows_of J = arrows_in (fold followed (at_start (units_in J)) J)
