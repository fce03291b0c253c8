-- Units that objects give out, each with what a report shows of its place.
use Rattle.std.specs.Prelude.{ℕ, suc, List, [], ◌∷◌, ◌++◌, Option, None, Some}
use Rattle.std.specs.List.{flat_map}
use Rattle.abt_machine.specs.declared.events.Site.{Site}
use Rattle.abt_machine.specs.declared.workload.Parts.{Parts}
use Rattle.abt_machine.specs.Values.{Object}
use Rattle.abt_unit.specs.Fits.{Fits}
use Rattle.abt_laws.specs.Footprint.{Holder, OfStream, OfSite}
use Rattle.abt_calls.specs.Showing.{Row, rows_as, rows_of_object}
use Rattle.abt_calls.specs.Totals.{desks_of, holders_from, pools_at}
use Rattle.abt_commons.specs.declared.groups.Group.{Group}
use Rattle.abt_commons.specs.Held.{ObjectsValue}
use Rattle.abt_commons.specs.Reading.{rows_at_site}
use Rattle.abt_commons.specs.Sites.{site_numbered}

abbrev pub rows_of_group : Group → List Row
rows_of_group group = rows_as group.shown group.units.units

-- the units of all groups, in order
abbrev pub rows_in : List Group → List Row
rows_in groups = flat_map rows_of_group groups

-- the units of an object; a stream is none
abbrev pub rows_held : ObjectsValue → Holder → List Row
rows_held held (OfStream s) = []
rows_held held (OfSite x) = rows_at_site held x

-- the units of all objects: pools first, then desks, then the things that the workload declares as objects
abbrev pub all_rows : ObjectsValue → List Row
all_rows held =
    flat_map (rows_held held) (pools_at held.workload) ++ flat_map (rows_held held) (desks_of held.workload)
    ++ flat_map (rows_held held) (holders_from 0 held.workload.objects)

-- the unit fits the workload
abbrev pub FitsRow : Parts → Row → Type 0
FitsRow W row = Fits W row.1

-- the unit of a desk, if it is there
abbrev pub row_of : Option Row → List Row
row_of None = []
row_of (Some row) = row ∷ []

-- the units of an object at a site, if it stands at one
abbrev pub rows_by : Parts → Option Site → Object → List Row
rows_by W None object = []
rows_by W (Some x) object = rows_of_object W x object

-- the units of these objects, the first of which has number i
abbrev pub rows_from : Parts → ℕ → List Object → List Row
rows_from W i [] = []
rows_from W i (object ∷ objects) = rows_by W (site_numbered W i) object ++ rows_from W (suc i) objects
