-- What callers see of seats that may keep the turn between their calls.
use Rattle.std.specs.Prelude.{◌≡◌, ℕ, ◌≤◌, ◌^◌, List, [], ◌∷◌, ◌++◌, true, false, Some}
use Rattle.abt_interleave.specs.declared.entries.Entry.{Entry}
use Rattle.abt_interleave.specs.Histories.{last_stamp, RisesAbove, Leads, entry_stamps}
use Rattle.abt_booth.specs.declared.object.Object.{Ghosts}
use Rattle.abt_booth.specs.declared.booth.Booth.{Booth}
use Rattle.abt_booth.specs.declared.holder.Holder.{Holder}
use Rattle.abt_booth.specs.declared.rule.Lot.{Lot}
use Rattle.abt_booth.specs.Rule.{SeatState, IsOf, called}
use Rattle.abt_booth.specs.Seats.{opening_of}

module _ {O A R : Type 0} where
  -- what a seat has seen, followed by the calls of the turn that it keeps
  abbrev pub sight_of : SeatState O A R → List (Entry A R)
  sight_of me = me.0.seen ++ called me.0.number me.1

  -- what a seat has out with the turn, of a booth that began with an object: its history leads to the object there, and rises to the clock
  pub record IsTaken (does : O → A → R → O → Type 0) (opening : O) (history : List (Entry A R)) (lot : Lot O A R) : Type 0 where
    pub leads : Leads does opening history lot.object
    pub rises : RisesAbove 0 (entry_stamps history)
    pub clock : lot.clock ≡ last_stamp (entry_stamps history)
    pub capped : lot.clock ≤ 2 ^ 62

  -- a seat without the turn, and with it
  abbrev pub IsIdle : SeatState O A R → Type 0
  IsIdle me = (me.1 ≡ []) × (me.0.holds ≡ false)

  abbrev pub IsBusy : (O → A → R → O → Type 0) → O → SeatState O A R → Type 0
  IsBusy does opening me = (lot : Lot O A R) × (me.1 ≡ (0, Some lot) ∷ []) × (me.0.holds ≡ true) × IsTaken does opening (sight_of me) lot

module _ {O A R : Type 0} {g : Ghosts O A R} where
  -- the holder's number, by which its calls are known
  unfoldable pub holder_number : Holder O A R g → ℕ
  holder_number holder = holder.raw.me.0.number

  -- the calls that it has seen, those of the turn that it keeps among them
  unfoldable pub holder_seen : Holder O A R g → List (Entry A R)
  holder_seen holder = sight_of holder.raw.me

  -- the holder was made of a seat of this booth
  unfoldable pub IsHolderOf : Booth O A R → Holder O A R g → Type 0
  IsHolderOf booth holder = IsOf booth.table.shared.table_id (opening_of booth) holder.raw

  -- the holder does not keep the turn
  unfoldable pub Rests : Holder O A R g → Type 0
  Rests holder = IsIdle holder.raw.me

  -- the holder keeps the turn of this booth
  unfoldable pub HasTurn : (O → A → R → O → Type 0) → Booth O A R → Holder O A R g → Type 0
  HasTurn does booth holder = IsHolderOf booth holder × IsBusy does (opening_of booth) holder.raw.me
