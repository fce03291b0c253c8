-- What contracts see of a record.
use Rattle.std.specs.Prelude.{ℕ, ◌≡◌, ◌-◌, ⊤, Bool, true, false, List, [], Option, Some, None, vec_capacity, vec_len}
use Rattle.std.specs.Global.{Vec}
use Rattle.std.specs.declared.snapshot.Snapshot.{Snapshot}
use Rattle.abt_machine.specs.declared.events.Event.{Event}

-- whether it keeps its events in memory, its events, and how many more it takes without memory
pub record RecordValue : Type 0 where
  pub keeps : Bool
  pub events : List Event
  pub room : ℕ

-- the events where they are kept, and nothing where they are not
abbrev pub IsKept : Bool → List Event → Option (List Event) → Type 0
IsKept true events (Some list) = list ≡ events
IsKept true events None = ⊥
IsKept false events (Some list) = ⊥
IsKept false events None = ⊤

-- the events that a snapshot remembers
abbrev pub remembered : Option (Snapshot (List Event)) → List Event
remembered None = []
remembered (Some past) = past.value

-- a list that is kept has room for what it has reserved; without one there is always room
abbrev pub room_of : Option (Vec Event) → ℕ
room_of None = 1
room_of (Some list) = vec_capacity list - vec_len list
