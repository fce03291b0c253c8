-- The picture of the units that streams and objects hold.
use Rattle.std.specs.Prelude.{ℕ, zero, suc, ◌≡◌, List, [], ◌∷◌, ◌++◌, Option, Some, None, set}
use Rattle.std.specs.List.{All}
use Rattle.abt_machine.specs.declared.events.Event.{Event}
use Rattle.abt_machine.specs.declared.events.Shown.TheVariants as shows
use Rattle.abt_machine.specs.declared.operations.Thing.{Thing}
use Rattle.abt_machine.specs.declared.operations.Thing.TheVariants as thing
use Rattle.abt_machine.specs.Stored.{Stored}
use Rattle.abt_machine.specs.declared.workload.Parts.{Parts}
use Rattle.abt_machine.specs.Numbers.{object_no, pool_no, unit_no}
use Rattle.abt_machine.specs.Pieces.{IsPieceOf}
use Rattle.abt_machine.specs.Runs.{Run, last_state}
use Rattle.abt_machine.specs.Sound.{Sound}
use Rattle.abt_machine.specs.State.{State}
use Rattle.abt_machine.specs.Texts.{shown_units}
use Rattle.abt_machine.specs.Valid.{IsValid}
use Rattle.abt_machine.specs.Values.{DeskValue, Held, Object, MonitorIs, EventualIs, FutureIs, BarrierIs, RwLockIs, PoolValue, conditions_of}
use Rattle.abt_calls.specs.Showing as held
use Rattle.abt_calls.specs.Showing.{rows_as, rows_at, rows_at_desk, rows_of_part}
use Rattle.abt_report.specs.declared.pictures.Row.{Row}
use Rattle.abt_report.specs.Pictures.{SaysWordsOf, units_in_rows}
use Rattle.abt_model.specs.Models.{ModelValue, StandsFor}

-- Rows of a picture.

-- of a unit
abbrev pub row_shown : held.Row → Row
row_shown row = record { shown = row.0; output = row.1.carried.output }

-- of a unit that nothing is known of
abbrev pub blank : Row
blank = record { shown = shows.Unborn; output = [] }

-- the picture after these units were put into it one after the other, each at its number
abbrev pub placed : List held.Row → List Row → List Row
placed [] rows = rows
placed (row ∷ rest) rows = placed rest (set rows row.1.number (row_shown row))

-- Units that are held, each with what is shown of its place.

-- by stream s, if it is there
abbrev pub rows_of_lane : ℕ → Option Held → List held.Row
rows_of_lane s None = []
rows_of_lane s (Some lane) = rows_of_part s lane

-- by pool p
abbrev pub rows_of_pool : ℕ → Option PoolValue → List held.Row
rows_of_pool p None = []
rows_of_pool p (Some pool) = rows_as (shows.Pool (pool_no p)) pool.units

-- by the desk of unit u
abbrev pub rows_of_desk : ℕ → Option DeskValue → List held.Row
rows_of_desk u None = []
rows_of_desk u (Some desk) = rows_at_desk desk.phase ++ rows_as (shows.Join (unit_no u)) desk.joiners

-- by declared object x; those that wait at a condition are with its mutex
abbrev pub rows_of_slot : Parts → ℕ → Option Object → List held.Row
rows_of_slot W x (Some (MonitorIs m)) = rows_as (shows.Object (object_no x)) m.waiters ++ rows_at (conditions_of W x) m.conds
rows_of_slot W x (Some (EventualIs e)) = rows_as (shows.Object (object_no x)) e.waiters
rows_of_slot W x (Some (FutureIs f)) = rows_as (shows.Object (object_no x)) f.waiters
rows_of_slot W x (Some (BarrierIs b)) = rows_as (shows.Object (object_no x)) b.waiters
rows_of_slot W x (Some (RwLockIs l)) = rows_as (shows.Object (object_no x)) l.waiters
rows_of_slot W x _ = []

-- by thing x, which is this, where that stands in its slot
abbrev pub rows_of_thing : Parts → ℕ → Option Thing → Option Object → List held.Row
rows_of_thing W x (Some (thing.Cond m)) slot = []
rows_of_thing W x _ slot = rows_of_slot W x slot

-- by those of the numbers below n
abbrev pub rows_below : (ℕ → List held.Row) → ℕ → List held.Row
rows_below rows zero = []
rows_below rows (suc n) = rows_below rows n ++ rows n

-- What a picture of a model says.

-- the picture shows the units of each sound state for which the model stands
abbrev pub ShowsUnits : Parts → ModelValue → List Row → Type 0
ShowsUnits W model rows = (Z : Stored) (S : State) → Sound W Z S → StandsFor W S model → shown_units W S ≡ units_in_rows rows

-- what each unit put out in state S are pieces of the workload
abbrev pub SaysOwnWords : Parts → State → Type 0
SaysOwnWords W S = (u : ℕ) → All (IsPieceOf W) (S.carried u).output

-- its words are the workload's, if those of the state are for which the model stands
abbrev pub SaysWords : Parts → ModelValue → List Row → Type 0
SaysWords W model rows = (S : State) → StandsFor W S model → SaysOwnWords W S → All (SaysWordsOf W) rows

-- in every run of a valid workload units put out its pieces
abbrev pub RunsSayOwnWords : Type 0
RunsSayOwnWords = (W : Parts) (Z : Stored) → IsValid W → (J : List Event) → Run W Z J → SaysOwnWords W (last_state W J)
