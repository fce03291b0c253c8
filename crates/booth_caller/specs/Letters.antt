-- A letter that goes from one seat to another.
use Rattle.std.specs.Prelude.{ℕ, Box}
use Rattle.std.specs.declared.alloc.Global.{Global}
use Rattle.abt_booth.specs.declared.object.Object.{Ghosts}
use Rattle.abt_booth.specs.declared.booth.Booth.{Booth}
use Rattle.abt_booth.specs.declared.booth.Seat.{Seat}
use Rattle.abt_booth.specs.declared.booth.Called.{Called}
use Rattle.abt_booth.specs.declared.booth.Called.TheVariants as called
use Rattle.abt_booth.specs.Calls.{GrowsBy}
use Rattle.abt_booth.specs.Seats.{added_by, number_of, seen_of, Replies}
use Rattle.booth_caller.specs.declared.letters.Letter.{Letter}
use Rattle.booth_caller.specs.declared.letters.Tray.{Tray}
use Rattle.booth_caller.specs.declared.letters.Ask.{Ask}
use Rattle.booth_caller.specs.declared.letters.Ask.TheVariants as ask
use Rattle.booth_caller.specs.declared.letters.Reply.{Reply}
use Rattle.booth_caller.specs.Trays.{Does}

-- the stamp of a call that was answered, else 0
abbrev pub stamp_in : {O A R : Type 0} → Called O A R → ℕ
stamp_in (called.Done stamp answer) = stamp
stamp_in (called.Worn back) = 0

-- The letter was put with one seat, and then one was taken with the other, at the first call's stamp; each seat made exactly its one call.
pub record ArePassed {g : Ghosts Tray Ask Reply} (booth : Booth Tray Ask Reply) (putter putter' taker taker' : Seat Tray Ask Reply g) (letter : Box Letter Global) (put taken : Called Tray Ask Reply) : Type 0 where
  pub put_replies : Replies Does booth putter putter' 0 (ask.Put letter) put
  pub put_grows : GrowsBy (number_of putter) (seen_of putter) (seen_of putter') (added_by (number_of putter) (ask.Put letter) put)
  pub taken_replies : Replies Does booth taker taker' (stamp_in put) ask.Take taken
  pub taken_grows : GrowsBy (number_of taker) (seen_of taker) (seen_of taker') (added_by (number_of taker) ask.Take taken)
