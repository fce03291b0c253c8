-- The stretches of a stream: each is a time for which one unit is in the stream's hand.
use Rattle.std.specs.Prelude.{ℕ, ◌+◌, ◌-◌, ◌==◌, nat_lt, min, Bool, false, if◌then◌else◌, List, [], ◌∷◌, ◌++◌, flat_map, fold, max, Option, Some, None, option_map}
use Rattle.std.specs.List.{range_with_len}
use Rattle.abt_machine.specs.declared.events.Event.{Event}
use Rattle.abt_machine.specs.declared.events.What.{What}
use Rattle.abt_machine.specs.declared.events.What.TheVariants as what
use Rattle.abt_machine.specs.declared.grammar.Format.TheVariants as format
use Rattle.abt_machine.specs.Limits.{stream_limit}
use Rattle.abt_view.specs.declared.notes.Note.{Note}
use Rattle.abt_view.specs.declared.stretches.Cut.{Cut}
use Rattle.abt_view.specs.declared.stretches.Jump.{Jump}
use Rattle.abt_view.specs.declared.stretches.Stretch.{Stretch}
use Rattle.abt_view.specs.declared.stretches.Turn.{Turn}
use Rattle.abt_view.specs.declared.stretches.Turn.TheVariants.{Begins, GoesOn, Ends, Stays}

-- whether that unit is in hand
abbrev pub is_held : Option Stretch → ℕ → Bool
is_held None u = false
is_held (Some stretch) u = stretch.unit == u

-- an event of unit u belongs to its stretch, or begins one if another unit or none was in hand
abbrev pub goes_on_or_begins : Option Stretch → ℕ → Turn
goes_on_or_begins held u = if is_held held u then GoesOn else Begins u

-- a put of unit u belongs to its stretch, and not to that of another unit, which goes on
abbrev pub goes_on_or_stays : Option Stretch → ℕ → Turn
goes_on_or_stays held u = if is_held held u then GoesOn else Stays

-- what an event of the stream means for the current stretch: a take begins another, and after a miss, or after a stacked scheduler
-- leaves, no unit is in hand
abbrev pub turn_of : Option Stretch → What → Turn
turn_of held (what.Miss p) = Ends
turn_of held (what.Take p u) = Begins u.0
turn_of held (what.Look u) = goes_on_or_begins held u.0
turn_of held (what.Step u k c) = goes_on_or_begins held u.0
turn_of held (what.Call u k n) = goes_on_or_begins held u.0
turn_of held (what.Put u p) = goes_on_or_stays held u.0
turn_of held (what.End u c) = goes_on_or_begins held u.0
turn_of held (what.Enter u) = goes_on_or_begins held u.0
turn_of held (what.Leave u) = Ends

-- from an event of the stream to the next there is a jump if a stamp is between them
abbrev pub jumps_between : ℕ → ℕ → List Jump
jumps_between from to = if nat_lt 1 (to - from) then record { from = from; to = to } ∷ [] else []

-- a stretch that begins with an event, and a stretch with an event of its unit appended
abbrev pub begun : ℕ → Note → Stretch
begun u n = record { stream = n.event.stream.0; unit = u; since = n.event.stamp; until = n.event.stamp; last = n.event.stamp; events = n ∷ []; jumps = [] }

abbrev pub longer : Stretch → Note → Stretch
longer stretch n =
    record stretch { until = n.event.stamp; last = n.event.stamp; events = stretch.events ++ n ∷ []; jumps = stretch.jumps ++ jumps_between stretch.last n.event.stamp }

-- a stretch in which the stream puts another unit
abbrev pub beside : Event → Stretch → Stretch
beside e stretch = record stretch { last = e.stamp; jumps = stretch.jumps ++ jumps_between stretch.last e.stamp }

-- the current stretch, if there is one, ends
abbrev pub closed_by : List Stretch → Option Stretch → Cut
closed_by past None = record { past = past; held = None }
closed_by past (Some stretch) = record { past = past ++ stretch ∷ []; held = None }

abbrev pub closed : Cut → Cut
closed cut = closed_by cut.past cut.held

-- the stretches after an event of their stream, by what it means for the current one
abbrev pub cut_by : Cut → Note → Turn → Cut
cut_by cut n (Begins u) = record { past = (closed cut).past; held = Some (begun u n) }
cut_by cut n GoesOn = record { past = cut.past; held = option_map (λ (stretch : Stretch). longer stretch n) cut.held }
cut_by cut n Ends = closed cut
cut_by cut n Stays = record { past = cut.past; held = option_map (beside n.event) cut.held }

-- the stretches of stream s after an event of any stream: that of another stream changes nothing
abbrev pub cut_at : ℕ → Cut → Note → Cut
cut_at s cut n = if n.event.stream.0 == s then cut_by cut n (turn_of cut.held n.event.what) else cut

-- the state before the first event
abbrev pub uncut : Cut
uncut = record { past = []; held = None }

-- the stretches of stream s in a journal
abbrev pub stretches_of : List Note → ℕ → List Stretch
stretches_of notes s = (closed (fold (cut_at s) uncut notes)).past

-- how many streams a view shows: up to the greatest that has an event, and at most as many as a workload may have
abbrev pub streams_in : List Event → ℕ
streams_in J = min (stream_limit format.Three) (fold (λ n (e : Event). max n (e.stream.0 + 1)) 0 J)

-- the stretches of that many streams, in order of stream
abbrev pub all_stretches : ℕ → List Note → List Stretch
all_stretches streams notes = flat_map (stretches_of notes) (range_with_len 0 streams)
