-- A letter that goes into a tray and out again in one turn.
use Rattle.std.specs.Prelude.{◌≡◌, ℕ, ⊤, List, ◌++◌, Box}
use Rattle.std.specs.declared.alloc.Global.{Global}
use Rattle.abt_interleave.specs.declared.entries.Entry.{Entry}
use Rattle.abt_booth.specs.declared.booth.Booth.{Booth}
use Rattle.abt_booth.specs.declared.booth.Called.{Called}
use Rattle.abt_booth.specs.declared.booth.Called.TheVariants as called
use Rattle.abt_booth.specs.Seats.{added_by, opening_of, IsReply}
use Rattle.booth_caller.specs.declared.letters.Letter.{Letter}
use Rattle.booth_caller.specs.declared.letters.Tray.{Tray}
use Rattle.booth_caller.specs.declared.letters.Ask.{Ask}
use Rattle.booth_caller.specs.declared.letters.Ask.TheVariants as ask
use Rattle.booth_caller.specs.declared.letters.Reply.{Reply}
use Rattle.booth_caller.specs.declared.letters.Reply.TheVariants as reply
use Rattle.booth_caller.specs.Trays.{Does}

-- a letter that was stored comes out of the next call, unless the clock is worn
abbrev pub ComesOut : Box Letter Global → Called Tray Ask Reply → Called Tray Ask Reply → Type 0
ComesOut letter (called.Done stamp reply.Stored) (called.Done stamp' answer) = answer ≡ reply.Given letter
ComesOut letter put taken = ⊤

-- The letter was put and then one was taken, by the seat of this number, and between the two is no other call.
pub record GoesThrough (booth : Booth Tray Ask Reply) (number : ℕ) (before after : List (Entry Ask Reply)) (letter : Box Letter Global) (put taken : Called Tray Ask Reply) : Type 0 where
  pub between : List (Entry Ask Reply)
  pub put_reply : IsReply Does (opening_of booth) number before between 0 (ask.Put letter) put
  pub taken_reply : IsReply Does (opening_of booth) number between after 0 ask.Take taken
  pub next : after ≡ between ++ added_by number ask.Take taken
  pub out : ComesOut letter put taken
