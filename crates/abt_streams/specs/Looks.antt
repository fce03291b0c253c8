-- Which streams live, and how a run on lives ended, by objects and streams.
use Rattle.std.specs.Prelude.{ℕ, ◌<◌, IsTrue, Bool, List, Option, Some, None, Contains}
use Rattle.abt_machine.specs.declared.events.Event.{Event}
use Rattle.abt_machine.specs.declared.events.Outcome.{Outcome}
use Rattle.abt_machine.specs.declared.events.Site.{Site}
use Rattle.abt_machine.specs.declared.events.Site.TheVariants as site
use Rattle.abt_machine.specs.Stored.{Stored}
use Rattle.abt_machine.specs.declared.workload.Parts.{Parts}
use Rattle.abt_machine.specs.Numbers.{object_no, pool_no}
use Rattle.abt_machine.specs.Outcomes.{Spent}
use Rattle.abt_machine.specs.Rounds.{OrdersStored}
use Rattle.abt_machine.specs.Runs.{Run, last_state}
use Rattle.abt_machine.specs.Values.{Held, Object}
use Rattle.abt_machine.specs.Workloads.{main_of, pools_of}
use Rattle.abt_commons.specs.Held.{ObjectsValue, object_at}
use Rattle.abt_commons.specs.Reading.{is_ready}
use Rattle.abt_outcomes.specs.Values.{HaveMade, IsEmptyPool, IsIdle, StandFor}
use Rattle.abt_stream.specs.Streams.{StreamValue}
use Rattle.abt_drain.specs.Looks.{HasEmptyPools, parts_held, steps_made}
use Rattle.abt_streams.specs.declared.life.Life.{Life}
use Rattle.abt_streams.specs.Ends.{EndsOn, QuietOn}
use Rattle.abt_streams.specs.Living.{life_of, lives_by}

-- whether stream s lives
abbrev pub is_live_with : (Site → Object) → List Life → ℕ → Bool
is_live_with objects lives s = lives_by (λ x. is_ready (objects (site.Eventual (object_no x)))) (life_of lives s)

-- each stream is idle, and the pools that main schedulers of live streams list are empty
pub record LooksQuietOn (W : Parts) (lives : List Life) (parts : ℕ → Held) (objects : Site → Object) : Type 0 where
  pub idle : (s : ℕ) → s < W.streams → IsIdle (parts s)
  pub pools : (s p : ℕ) → s < W.streams → IsTrue (is_live_with objects lives s) → Contains (pools_of W (main_of W s)) p → IsEmptyPool (objects (site.Pool (pool_no p)))

-- nothing is left to do on these lives
abbrev pub IsQuietOnWith : Parts → List Life → List StreamValue → ObjectsValue → Type 0
IsQuietOnWith W lives streams objects = LooksQuietOn W lives (parts_held W streams) (object_at objects)

-- the pools that stream s takes from are empty, if it lives
abbrev pub FindsNothing : Parts → List Life → ObjectsValue → ℕ → Type 0
FindsNothing W lives objects s = IsTrue (is_live_with (object_at objects) lives s) → HasEmptyPools W objects s

-- stream s holds nothing, and finds nothing
abbrev pub IsQuietOnAt : Parts → List Life → List StreamValue → ObjectsValue → ℕ → Type 0
IsQuietOnAt W lives streams objects s = IsIdle (parts_held W streams s) × FindsNothing W lives objects s

-- the journal ended so on these lives, or it has not ended
abbrev pub EndsOnWith : Parts → List Life → ℕ → List Event → Option Outcome → Type 0
EndsOnWith W lives n J (Some o) = EndsOn W lives n J o
EndsOnWith W lives n J None = (QuietOn W lives (last_state W J) → ⊥) × ((s : ℕ) → Spent W n J s → ⊥)

-- each run to whose last state these streams and objects belong ended so
abbrev pub IsOutcomeOnLives : Parts → List Life → ℕ → List StreamValue → ObjectsValue → Option Outcome → Type 0
IsOutcomeOnLives W lives n streams objects outcome =
    (Z : Stored) (J : List Event) → OrdersStored W Z.orders → Run W Z J → StandFor W (last_state W J) (parts_held W streams) (object_at objects)
    → HaveMade W J (steps_made streams) → EndsOnWith W lives n J outcome
