-- Passes of a hall, and what it leaves.
use Rattle.std.specs.Prelude.{ℕ, ◌≡◌, ◌≤◌, ◌⊎◌, max, List, [], slice_get, Option, None, Some}
use Rattle.std.specs.List.{All}
use Rattle.abt_machine.specs.declared.events.Site.{Site}
use Rattle.abt_machine.specs.declared.workload.Parts.{Parts}
use Rattle.abt_machine.specs.Acts as asked
use Rattle.abt_booth.specs.declared.booth.Booth.{Booth}
use Rattle.abt_booth.specs.declared.booth.Seat.{Seat}
use Rattle.abt_interleave.specs.declared.entries.Entry.{Entry}
use Rattle.abt_booth.specs.declared.object.Object.{Ghosts}
use Rattle.abt_booth.specs.Seats.{opening_of, seats_of, seen_of}
use Rattle.abt_calls.specs.Asking.{IsSite}
use Rattle.abt_simulation.specs.Merging.{machine_of}
use Rattle.abt_weave.specs.Seen.{line_seen}
use Rattle.abt_commons.specs.declared.acts.Ask.{Ask}
use Rattle.abt_commons.specs.declared.acts.Answer.{Answer}
use Rattle.abt_commons.specs.Acts.{act_of, answer_of}
use Rattle.abt_commons.specs.Held.{ObjectsValue, object_at, clock_at}
use Rattle.abt_commons.specs.Sights.{SiteCall, Leaves, nothing_stored}

-- the lock around all objects, and the clock that was carried to it
pub record HallValue : Type 0 where
  pub booth : Booth ObjectsValue Ask Answer
  pub clock : ℕ

-- the one lock
abbrev pub the_lock : Site → Unit {0}
the_lock x = tt

-- what an act asks of which site
abbrev pub asks_all : Ask → Site × asked.Act
asks_all ask = (ask.site, act_of ask.act)

-- a history of the booth, as the one line
abbrev pub hall_line : Parts → List (Entry Ask Answer) → List SiteCall
hall_line W history = line_seen (machine_of W nothing_stored) asks_all answer_of history

module _ {g : Ghosts ObjectsValue Ask Answer} where
  abbrev pub seen_from : Option (Seat ObjectsValue Ask Answer g) → List (Entry Ask Answer)
  seen_from None = []
  seen_from (Some seat) = seen_of seat

  -- the hall was closed: its line leads all objects from what they were to what they are, the passes' calls are its calls, and the
  -- clock of each site, and of every other number, is the greater of the clock that was carried to the hall and the last stamp
  pub record HallLeft (booth : Booth ObjectsValue Ask Answer) (carried : ℕ) (passes : List (Seat ObjectsValue Ask Answer g)) (held : ObjectsValue) : Type 0 where
    pub workload : held.workload ≡ (opening_of booth).workload
    pub closing : ℕ
    pub left : Leaves (opening_of booth).workload the_lock (λ l. carried) tt (seats_of booth) (λ s l. hall_line (opening_of booth).workload (seen_from (slice_get passes s)))
        (object_at (opening_of booth)) (object_at held) closing
    pub clocks : (x : Site) → IsSite (opening_of booth).workload x → clock_at held x ≡ max carried closing
    pub every : All (λ clock. clock ≡ max carried closing) held.clocks

-- the greatest of these clocks, 0 if there is none
pub record IsGreatest (clock : ℕ) (clocks : List ℕ) : Type 0 where
  pub above : All (λ c. c ≤ clock) clocks
  pub one : (clock ≡ 0) ⊎ ((i : ℕ) × (slice_get clocks i ≡ Some clock))
