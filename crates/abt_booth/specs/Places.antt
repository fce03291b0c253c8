-- Which booth a holder is of.
use Rattle.std.specs.Prelude.{Option, Some}
use Rattle.atomic_table.specs.Seated.{TableId}
use Rattle.abt_booth.specs.declared.object.Object.{Ghosts}
use Rattle.abt_booth.specs.declared.booth.Booth.{Booth}
use Rattle.abt_booth.specs.declared.holder.Holder.{Holder}
use Rattle.abt_booth.specs.Seats.{opening_of}

-- a booth as its holders know it: by its table, and the object that it was made round
abbrev pub Place : Type 0 → Type 0
Place O = TableId × Option O

module _ {O A R : Type 0} where
  unfoldable pub place_of : Booth O A R → Place O
  place_of booth = (booth.table.shared.table_id, Some (opening_of booth))

module _ {O A R : Type 0} {g : Ghosts O A R} where
  -- the booth of which the holder is
  unfoldable pub holder_place : Holder O A R g → Place O
  holder_place holder = (holder.raw.table_id, holder.raw.me.0.opening)
