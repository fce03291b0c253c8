-- The picture of a run's end, made of what its streams and objects hold.
use Rattle.std.specs.Prelude.{ℕ, suc, ◌≡◌, ◌<◌, List, [], ◌∷◌, ◌++◌, length, map, slice_get, set, Some, option_map}
use Rattle.std.specs.List.{All}
use Rattle.abt_machine.specs.declared.events.Shown.TheVariants as shows
use Rattle.abt_machine.specs.declared.events.Site.{Site}
use Rattle.abt_machine.specs.Stored.{Stored}
use Rattle.abt_machine.specs.declared.workload.Parts.{Parts}
use Rattle.abt_machine.specs.Numbers.{stream_no}
use Rattle.abt_machine.specs.Sound.{Sound}
use Rattle.abt_machine.specs.State.{State}
use Rattle.abt_machine.specs.Texts.{shown_units}
use Rattle.abt_machine.specs.Values.{Owned, object_of, part_of}
use Rattle.abt_unit.specs.Fits.{Fits}
use Rattle.abt_calls.specs.Effects.{unit_in}
use Rattle.abt_calls.specs.Holders.{units_held}
use Rattle.abt_calls.specs.Showing as held
use Rattle.abt_calls.specs.Showing.{rows_as}
use Rattle.abt_commons.specs.Held.{ObjectsValue, object_at}
use Rattle.abt_report.specs.declared.pictures.Row.{Row}
use Rattle.abt_report.specs.Pictures as picture
use Rattle.abt_stream.specs.declared.stream.StreamParts.{StreamParts}
use Rattle.abt_commons.specs.Acts.{owned}

-- Units that streams leave.

-- the units of one
abbrev pub units_in_parts : StreamParts → List Owned
units_in_parts parts = unit_in (option_map owned parts.hand) ++ unit_in (option_map owned parts.next) ++ parts.tray.units ++ map owned parts.frames

-- those of these streams, the first of which has number s, each with what a report shows of its place
abbrev pub rows_left : ℕ → List StreamParts → List held.Row
rows_left s [] = []
rows_left s (parts ∷ rest) = rows_as (shows.Stream (stream_no s)) (units_in_parts parts) ++ rows_left (suc s) rest

-- the units fit W
abbrev pub LeavesWhatFits : Parts → StreamParts → Type 0
LeavesWhatFits W parts = All (Fits W) (units_in_parts parts)

-- Rows of a picture.

-- of a unit
abbrev pub row_shown : held.Row → Row
row_shown row = record { shown = row.0; output = row.1.carried.output }

-- of a unit that nothing is known of
abbrev pub blank : Row
blank = record { shown = shows.Unborn; output = [] }

-- the picture after these units were put into it one after the other, each at its number
abbrev pub placed : List held.Row → List Row → List Row
placed [] rows = rows
placed (row ∷ rest) rows = placed rest (set rows row.1.number (row_shown row))

-- the numbers of the units are below n
abbrev pub AreBelow : ℕ → List Owned → Type 0
AreBelow n os = All (λ (o : Owned). o.number < n) os

-- what these streams leave and these objects hold is what those of state S do
pub record AreOf (W : Parts) (S : State) (streams : List StreamParts) (objects : ObjectsValue) : Type 0 where
  pub many : length streams ≡ W.streams
  pub left : (s : ℕ) (parts : StreamParts) → slice_get streams s ≡ Some parts → units_in_parts parts ≡ units_held (part_of W S s)
  pub held : (x : Site) → object_of W S x ≡ object_at objects x

-- the picture shows the units of each sound state whose streams left this, and whose objects are these
abbrev pub ShowsUnits : Parts → List StreamParts → ObjectsValue → List Row → Type 0
ShowsUnits W streams objects rows =
    (Z : Stored) (S : State) → Sound W Z S → AreOf W S streams objects → shown_units W S ≡ picture.units_in_rows rows
