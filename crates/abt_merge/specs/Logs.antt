-- A list of logs, one for each stream.
use Rattle.std.specs.Prelude.{ℕ, ⊤, Bool, true, false, List, [], Option, Some, None, get_or, length}
use Rattle.std.specs.List.{sum_by}
use Rattle.abt_machine.specs.declared.events.Event.{Event}
use Rattle.abt_interleave.specs.Merges.{IsLogOf}
use Rattle.abt_simulation.specs.Journals.{MergesTo}

-- the log of stream s; a stream that has none made no event
abbrev pub log_of : List (List Event) → ℕ → List Event
log_of logs s = get_or logs s []

-- log i is of stream i, and its stamps rise
abbrev pub AreLogs : List (List Event) → Type 0
AreLogs logs = (s : ℕ) → IsLogOf (λ e. e.stamp) (λ e. e.stream.0) s (log_of logs s)

-- how many events they have
abbrev pub count_events : List (List Event) → ℕ
count_events logs = sum_by length logs

-- the journal of logs that are kept, and none of those that are not
abbrev pub MergesIf : Bool → List (List Event) → Option (List Event) → Type 0
MergesIf true logs (Some journal) = MergesTo (log_of logs) journal
MergesIf true logs None = ⊥
MergesIf false logs (Some journal) = ⊥
MergesIf false logs None = ⊤
