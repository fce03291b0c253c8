-- Journals that are runs, and the states along them.
use Rattle.std.specs.Prelude.{ℕ, ◌<◌, List, [], ◌∷◌, take}
use Rattle.abt_machine.specs.declared.events.Event.{Event}
use Rattle.abt_machine.specs.Stored.{Stored}
use Rattle.abt_machine.specs.declared.workload.Parts.{Parts}
use Rattle.abt_machine.specs.State.{State}
use Rattle.abt_machine.specs.Start.{start}
use Rattle.abt_machine.specs.Events.{May, after}

-- the state after these events
abbrev pub state_after : Parts → State → List Event → State
state_after W S [] = S
state_after W S (e ∷ es) = state_after W (after W S e.stream.0 e.what) es

-- each event, of a declared stream, is one that may come then
abbrev pub RunFrom : Parts → Stored → State → List Event → Type 0
RunFrom W Z S [] = Unit {0}
RunFrom W Z S (e ∷ es) = (e.stream.0 < W.streams) × May W Z S e.stream.0 e.what × RunFrom W Z (after W S e.stream.0 e.what) es

-- the journal is a run of the workload, with these stored orders and functions
abbrev pub Run : Parts → Stored → List Event → Type 0
Run W Z J = RunFrom W Z (start W) J

-- the state after the first i events, and after all
abbrev pub state_at : Parts → List Event → ℕ → State
state_at W J i = state_after W (start W) (take i J)

abbrev pub last_state : Parts → List Event → State
last_state W J = state_after W (start W) J
