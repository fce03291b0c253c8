-- What the turns of one stream make of all streams, while no other one makes any.
use Rattle.std.specs.Prelude.{ℕ, ◌≡◌, ◌<◌, ◌≤◌, ⊤, Bool, true, [], length, set}
use Rattle.abt_machine.specs.Stored.{Stored}
use Rattle.abt_machine.specs.declared.workload.Parts.{Parts}
use Rattle.abt_commons.specs.Held.{ObjectsValue}
use Rattle.abt_stream.specs.Streams.{StreamValue}
use Rattle.abt_stream.specs.declared.turns.Turn.{Turn}
use Rattle.abt_stream.specs.declared.turns.Turn.TheVariants as turn
use Rattle.abt_drain.specs.Crews.{CrewValue, IsCrew, moment_in}
use Rattle.abt_drain.specs.Rotations.{work_at}

-- the crew with this stream at place s, and these objects
abbrev pub with_stream : CrewValue → ℕ → StreamValue → ObjectsValue → CrewValue
with_stream crew s stream objects = record crew { objects = objects; streams = set crew.streams s stream }

-- several streams with the objects that they share are a crew with the new stream and objects, if they are one with the old ones, and no more is left to do
abbrev pub StaysCrew : Parts → Stored → StreamValue → ObjectsValue → StreamValue → ObjectsValue → Type 0
StaysCrew W Z old before new after =
    (n s : ℕ) (crew : CrewValue) → 2 ≤ W.streams → s < length crew.streams → IsCrew W Z n (with_stream crew s old before) →
    IsCrew W Z n (with_stream crew s new after) × (work_at W n (moment_in W (with_stream crew s new after)) ≤ work_at W n (moment_in W (with_stream crew s old before)))

-- several streams with the objects that they share were a crew with the old stream and objects, and so the new stream's round has seen no pool
abbrev pub BeginsAnew : Parts → Stored → StreamValue → ObjectsValue → StreamValue → Type 0
BeginsAnew W Z old before new = (n s : ℕ) (crew : CrewValue) → 2 ≤ W.streams → s < length crew.streams → IsCrew W Z n (with_stream crew s old before) → new.held.own.top.seen ≡ []

-- after such a turn a stream's round has seen no pool; the flag says whether a unit was in its tray before
abbrev pub MayEnd : Bool → Turn → Type 0
MayEnd putting turn.Stepped = ⊤
MayEnd putting turn.EmptyRound = ⊤
MayEnd putting turn.Moved = putting ≡ true
MayEnd putting turn.Spent = ⊤
MayEnd putting turn.Worn = ⊤
