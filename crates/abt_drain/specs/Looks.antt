-- How a run ended, by its streams and objects.
use Rattle.std.specs.Prelude.{ℕ, ◌≡◌, List, length, slice_get, Option, None, Some}
use Rattle.std.specs.List.{All}
use Rattle.abt_machine.specs.declared.events.Event.{Event}
use Rattle.abt_machine.specs.declared.events.Outcome.{Outcome}
use Rattle.abt_machine.specs.declared.events.Site.TheVariants as site
use Rattle.abt_machine.specs.Stored.{Stored}
use Rattle.abt_machine.specs.declared.workload.Parts.{Parts}
use Rattle.abt_machine.specs.Numbers.{pool_no}
use Rattle.abt_machine.specs.Outcomes.{EndsAs, Quiet, Spent, steps_in}
use Rattle.abt_machine.specs.Rounds.{OrdersStored}
use Rattle.abt_machine.specs.Runs.{Run, last_state}
use Rattle.abt_machine.specs.Values.{Held}
use Rattle.abt_machine.specs.Workloads.{main_of, pools_of}
use Rattle.abt_calls.specs.Starts.{start_part}
use Rattle.abt_commons.specs.Held.{ObjectsValue, object_at}
use Rattle.abt_outcomes.specs.Values.{HaveMade, IsEmptyPool, IsIdle, LooksAs, LooksQuiet, LooksSpent, StandFor}
use Rattle.abt_stream.specs.Streams.{FitsStream, StreamValue}

-- Streams by number.

-- the stream is the one of that number, fits W, and may make n steps
pub record IsStreamOf (W : Parts) (n s : ℕ) (stream : StreamValue) : Type 0 where
  pub number : stream.number.0 ≡ s
  pub fits : FitsStream W stream
  pub budget : stream.budget ≡ n

-- all streams of W, in order of number
pub record AreStreams (W : Parts) (n : ℕ) (streams : List StreamValue) : Type 0 where
  pub many : length streams ≡ W.streams
  pub own : (s : ℕ) (stream : StreamValue) → slice_get streams s ≡ Some stream → IsStreamOf W n s stream

abbrev pub held_from : Held → Option StreamValue → Held
held_from first None = first
held_from first (Some stream) = stream.held

-- what stream s holds: one that is not declared, what it would at the start
abbrev pub parts_held : Parts → List StreamValue → ℕ → Held
parts_held W streams s = held_from (start_part W s) (slice_get streams s)

abbrev pub steps_from : Option StreamValue → ℕ
steps_from None = 0
steps_from (Some stream) = steps_in stream.log

-- how many steps stream s made
abbrev pub steps_made : List StreamValue → ℕ → ℕ
steps_made streams s = steps_from (slice_get streams s)

-- What is left to do.

-- nothing
abbrev pub IsQuietWith : Parts → List StreamValue → ObjectsValue → Type 0
IsQuietWith W streams objects = LooksQuiet W (parts_held W streams) (object_at objects)

-- the pool is empty
abbrev pub IsEmptyAt : ObjectsValue → ℕ → Type 0
IsEmptyAt objects p = IsEmptyPool (object_at objects (site.Pool (pool_no p)))

-- the pools that the main scheduler of stream s lists are empty
abbrev pub HasEmptyPools : Parts → ObjectsValue → ℕ → Type 0
HasEmptyPools W objects s = All (IsEmptyAt objects) (pools_of W (main_of W s))

-- stream s holds nothing, and the pools that it takes from are empty
abbrev pub IsQuietAt : Parts → List StreamValue → ObjectsValue → ℕ → Type 0
IsQuietAt W streams objects s = IsIdle (parts_held W streams s) × HasEmptyPools W objects s

-- stream s has made its n steps, and would make another
abbrev pub IsSpentAt : Parts → ℕ → List StreamValue → ℕ → Type 0
IsSpentAt W n streams s = LooksSpent W n (parts_held W streams) (steps_made streams) s

-- Outcomes.

-- the run of these streams and objects goes on
pub record GoesOn (W : Parts) (n : ℕ) (streams : List StreamValue) (objects : ObjectsValue) : Type 0 where
  pub busy : IsQuietWith W streams objects → ⊥
  pub steps : (s : ℕ) → IsSpentAt W n streams s → ⊥

-- it ended so, or it goes on
abbrev pub EndedWith : Parts → ℕ → List StreamValue → ObjectsValue → Option Outcome → Type 0
EndedWith W n streams objects (Some o) = LooksAs W n (parts_held W streams) (object_at objects) (steps_made streams) o
EndedWith W n streams objects None = GoesOn W n streams objects

-- if each stream may make n steps, the journal ended so, or it has not ended
abbrev pub EndsWith : Parts → ℕ → List Event → Option Outcome → Type 0
EndsWith W n J (Some o) = EndsAs W n J o
EndsWith W n J None = (Quiet W (last_state W J) → ⊥) × ((s : ℕ) → Spent W n J s → ⊥)

-- each run to whose last state these streams and objects belong ended so
abbrev pub IsOutcomeOfRuns : Parts → ℕ → List StreamValue → ObjectsValue → Option Outcome → Type 0
IsOutcomeOfRuns W n streams objects outcome =
    (Z : Stored) (J : List Event) → OrdersStored W Z.orders → Run W Z J → StandFor W (last_state W J) (parts_held W streams) (object_at objects)
    → HaveMade W J (steps_made streams) → EndsWith W n J outcome
