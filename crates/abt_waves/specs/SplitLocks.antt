-- The locks of a split, one for each site.
use Rattle.std.specs.Prelude.{◌≡◌}
use Rattle.abt_machine.specs.declared.events.Site.{Site}
use Rattle.abt_machine.specs.declared.workload.Parts.{Parts}
use Rattle.abt_interleave.specs.Weaving.{TellsLocks}
use Rattle.abt_interleave.proofs.Parts.{cases-place}
use Rattle.abt_simulation.specs.Merging.{machine_of}
use Rattle.abt_simulation.proofs.Merged.{tells-sites}
use Rattle.abt_commons.specs.Held.{ObjectsValue, clock_at}
use Rattle.abt_commons.specs.Placing.{ArePlaced}
use Rattle.abt_commons.specs.Sights.{nothing_stored}
use Rattle.abt_commons.specs.declared.split.SplitPass.{SplitPass}
use Rattle.abt_commons.specs.Splits.{SplitValue, carried_to, opening_of_split, sights_of, pass_stream}
use Rattle.abt_waves.specs.Locks.{LocksValue}

abbrev pub locks_of_split : SplitValue → LocksValue Site SplitPass
locks_of_split split = record {
  objects = opening_of_split split;
  streams = split.streams;
  carried = carried_to split;
  number = pass_stream;
  sights = sights_of split;
}

-- two sites are one, or they are not
pub tells_sites : Parts → TellsLocks Site
tells_sites W = cases-place (machine_of W nothing_stored) (tells-sites W nothing_stored)

-- at the start each clock is 0
pub split_begins : (W : Parts) (held : ObjectsValue) → ArePlaced W held → (x : Site) → clock_at held x ≡ 0
split_begins W held placed = placed.clocks
