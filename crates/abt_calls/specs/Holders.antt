-- Which stream or object holds a unit: each declared unit is held once.
use Rattle.std.specs.Prelude.{ℕ, ◌≡◌, ◌≢◌, ◌<◌, List, ◌++◌, length}
use Rattle.abt_machine.specs.Stored.{Stored}
use Rattle.abt_machine.specs.declared.workload.Parts.{Parts}
use Rattle.abt_machine.specs.Valid.{IsValid}
use Rattle.abt_machine.specs.State.{State}
use Rattle.abt_machine.specs.Sound.{Sound}
use Rattle.abt_machine.specs.Values.{Owned, Held, object_of, part_of}
use Rattle.abt_laws.specs.Footprint.{Holder, OfStream, OfSite, holder}
use Rattle.abt_calls.specs.Asking.{IsSite}
use Rattle.abt_calls.specs.Keeps.{contents_of}
use Rattle.abt_calls.specs.Effects.{unit_in}
use Rattle.abt_calls.specs.Units.{times}

-- the workload declares it
abbrev pub IsHolder : Parts → Holder → Type 0
IsHolder W (OfStream s) = s < W.streams
IsHolder W (OfSite x) = IsSite W x

-- the units that a stream has
abbrev pub units_held : Held → List Owned
units_held held = unit_in held.hand ++ unit_in held.next ++ held.tray ++ held.framed

-- the units that a stream or an object holds in a state
abbrev pub units_with : Parts → State → Holder → List Owned
units_with W S (OfStream s) = units_held (part_of W S s)
units_with W S (OfSite x) = (contents_of (object_of W S x)).units

-- in state S unit u is held once, by a declared stream or object, the one of its place
pub record IsHeldOnce (W : Parts) (S : State) (u : ℕ) : Type 0 where
  pub declared : IsHolder W (holder W u (S.place u))
  pub once : times u (units_with W S (holder W u (S.place u))) ≡ 1
  pub nowhere_else : (h : Holder) → h ≢ holder W u (S.place u) → times u (units_with W S h) ≡ 0

-- in a sound state each declared unit is held once
abbrev pub UnitsAreHeldOnce : Type 0
UnitsAreHeldOnce = (W : Parts) (Z : Stored) (S : State) (u : ℕ) → IsValid W → Sound W Z S → u < length W.units → IsHeldOnce W S u
