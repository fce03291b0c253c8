-- Turns of locks: what a stream has seen at one lock, and whether it keeps the lock's turn.
use Rattle.std.specs.Prelude.{ℕ, ◌≡◌, List, Bool, false, true}
use Rattle.abt_interleave.specs.declared.entries.Entry.{Entry}
use Rattle.abt_booth.specs.declared.object.Object.{Ghosts}
use Rattle.abt_booth.specs.declared.booth.Booth.{Booth}
use Rattle.abt_booth.specs.declared.holder.Holder.{Holder}
use Rattle.abt_booth.specs.Holders.{HasTurn, Rests, holder_number, holder_seen}
use Rattle.abt_booth.specs.Places.{Place, holder_place, place_of}
use Rattle.abt_commons.specs.declared.acts.Act.{Act}
use Rattle.abt_commons.specs.declared.acts.Answer.{Answer}
use Rattle.abt_commons.specs.Asks.{Does}
use Rattle.abt_commons.specs.Held.{OneValue}

-- the lock, the number by which calls are known there, and the calls that were seen there
pub record TurnValue : Type 0 where
  pub place : Place OneValue
  pub number : ℕ
  pub seen : List (Entry Act Answer)

abbrev pub IsTurnOf : Booth OneValue Act Answer → TurnValue → Type 0
IsTurnOf booth turn = turn.place ≡ place_of booth

-- the number and the calls seen
abbrev pub known_of : TurnValue → ℕ × List (Entry Act Answer)
known_of turn = (turn.number, turn.seen)

module _ {g : Ghosts OneValue Act Answer} where
  -- the turn of a holder
  abbrev pub turn_of : Holder OneValue Act Answer g → TurnValue
  turn_of holder = record { place = holder_place holder; number = holder_number holder; seen = holder_seen holder }

  -- the holder rests, or keeps the turn of its booth
  abbrev pub RestsOrKeeps : Holder OneValue Act Answer g → Bool → Type 0
  RestsOrKeeps holder false = Rests holder
  RestsOrKeeps holder true = (booth : Booth OneValue Act Answer) × HasTurn Does booth holder
