-- Locks and passes of a split, and what it leaves.
use Rattle.std.specs.Prelude.{ℕ, ◌≡◌, ◌<◌, ◌≤◌, max, List, [], length, map, slice_get, slice_index_or, slice_set, Option, None, Some}
use Rattle.std.specs.List.{All}
use Rattle.abt_machine.specs.declared.events.Site.{Site}
use Rattle.abt_machine.specs.declared.workload.Parts.{Parts}
use Rattle.abt_machine.specs.Acts as asked
use Rattle.abt_booth.specs.declared.booth.Booth.{Booth}
use Rattle.abt_booth.specs.declared.booth.Called.{Called}
use Rattle.abt_interleave.specs.declared.entries.Entry.{Entry}
use Rattle.abt_interleave.specs.Histories.{Extends}
use Rattle.abt_booth.specs.Seats.{IsReply, opening_of, seats_of}
use Rattle.abt_simulation.specs.Merging.{machine_of}
use Rattle.abt_weave.specs.Seen.{line_seen}
use Rattle.abt_commons.specs.declared.acts.Act.{Act}
use Rattle.abt_commons.specs.declared.acts.Answer.{Answer}
use Rattle.abt_commons.specs.declared.split.SplitPass.{SplitPass}
use Rattle.abt_commons.specs.Acts.{act_of, answer_of}
use Rattle.abt_commons.specs.Asks.{Does}
use Rattle.abt_commons.specs.Sites.{site_number}
use Rattle.abt_commons.specs.Held.{OneValue, ObjectsValue, IsWhole, objects_value, object_at, clock_at}
use Rattle.abt_commons.specs.Replies.{Told}
use Rattle.abt_commons.specs.Sights.{SiteCall, Leaves, Shows, nothing_stored}
use Rattle.abt_commons.specs.Turns.{IsTurnOf, TurnValue}

-- each site has a lock of its own
abbrev pub own_lock : Site → Site
own_lock x = x

-- what an act asks of which site
abbrev pub asks_at : Site → Act → Site × asked.Act
asks_at x act = (x, act_of act)

-- a history of a site's booth, as its line
abbrev pub site_line : Parts → Site → List (Entry Act Answer) → List SiteCall
site_line W x history = line_seen (machine_of W nothing_stored) (asks_at x) answer_of history

-- the objects that booths were made around, with the clocks that were carried to them
abbrev pub opening_in : Parts → List (Booth OneValue Act Answer) → List ℕ → ObjectsValue
opening_in W booths clocks = objects_value W (map opening_of booths) clocks

-- booths around all objects of the workload, with a seat for each of n streams
pub record AreBooths (W : Parts) (n : ℕ) (booths : List (Booth OneValue Act Answer)) (clocks : List ℕ) : Type 0 where
  pub ours : All (λ one. one.workload ≡ W) (map opening_of booths)
  pub whole : IsWhole (opening_in W booths clocks)
  pub seated : All (λ booth. seats_of booth ≡ n) booths
  pub some : 1 ≤ n

-- the turn of each booth, with this number
pub record AreTurns (number : ℕ) (booths : List (Booth OneValue Act Answer)) (turns : List TurnValue) : Type 0 where
  pub many : length turns ≡ length booths
  pub own : (i : ℕ) (booth : Booth OneValue Act Answer) (turn : TurnValue) → i < length booths
      → IsTurnOf (slice_index_or booths i booth) (slice_index_or turns i turn) × ((slice_index_or turns i turn).number ≡ number)

abbrev pub seen_from : Option TurnValue → List (Entry Act Answer)
seen_from None = []
seen_from (Some turn) = turn.seen

abbrev pub seen_by : List TurnValue → Option ℕ → List (Entry Act Answer)
seen_by turns None = []
seen_by turns (Some i) = seen_from (slice_get turns i)

-- what was seen of the lines of all sites
abbrev pub sights : Parts → List TurnValue → Site → List SiteCall
sights W turns x = site_line W x (seen_by turns (site_number W x))

-- a lock for each object, and the clocks that were carried to them
pub record SplitValue : Type 0 where
  pub workload : Parts
  pub streams : ℕ
  pub booths : List (Booth OneValue Act Answer)
  pub clocks : List ℕ

-- the objects that the locks were made around, with the clocks that were carried to them
abbrev pub opening_of_split : SplitValue → ObjectsValue
opening_of_split split = opening_in split.workload split.booths split.clocks

-- the clock that was carried to a site's lock
abbrev pub carried_to : SplitValue → Site → ℕ
carried_to split x = clock_at (opening_of_split split) x

abbrev pub pass_stream : SplitPass → ℕ
pass_stream pass = pass.stream

-- the pass has the turn of each lock, with its stream's number
abbrev pub IsPassOf : SplitValue → SplitPass → Type 0
IsPassOf split pass = AreTurns pass.stream split.booths pass.turns.items

-- the pass has seen no call
abbrev pub HasSeenNothing : SplitPass → Type 0
HasSeenNothing pass = All (λ turn. turn.seen ≡ []) pass.turns.items

-- what a pass has seen of the lines of all sites
abbrev pub sights_of : SplitValue → SplitPass → Site → List SiteCall
sights_of split pass = sights split.workload pass.turns.items

-- a pass has met more calls at this lock, by a turn that may be kept then
pub record TakesAt (booth : Booth OneValue Act Answer) (number : ℕ) (old new : SplitPass) : Type 0 where
  pub stream : new.stream ≡ old.stream
  pub turn : TurnValue
  pub turns : new.turns.items ≡ slice_set old.turns.items number turn
  pub its : IsTurnOf booth turn
  pub numbered : turn.number ≡ (slice_index_or old.turns.items number turn).number
  pub met : Extends (slice_index_or old.turns.items number turn).number (slice_index_or old.turns.items number turn).seen turn.seen

-- a pass asked the object of this lock, and its turn is another one then
pub record AsksAt (booth : Booth OneValue Act Answer) (number : ℕ) (old : SplitPass) (at : ℕ) (act : Act) (called : Called OneValue Act Answer) (new : SplitPass) : Type 0 where
  pub stream : new.stream ≡ old.stream
  pub turn : TurnValue
  pub turns : new.turns.items ≡ slice_set old.turns.items number turn
  pub its : IsTurnOf booth turn
  pub numbered : turn.number ≡ (slice_index_or old.turns.items number turn).number
  pub reply : IsReply Does (opening_of booth) (slice_index_or old.turns.items number turn).number (slice_index_or old.turns.items number turn).seen turn.seen at act called

-- what the pass sees by a call
abbrev pub SplitMoves : SplitValue → SplitPass → Site → ℕ → asked.Act → Told → SplitPass → Type 0
SplitMoves split old x at act told new = Shows split.workload own_lock (carried_to split) old.stream (sights_of split old) x at act told (sights_of split new)

abbrev pub sights_from : SplitValue → Option SplitPass → Site → List SiteCall
sights_from split None x = []
sights_from split (Some pass) x = sights_of split pass x

-- the split was closed: the line of each site leads its object from what it was to what it is, the passes' calls are its calls,
-- and the site has the greater of the clock that was carried to it and the last stamp
pub record SplitLeft (split : SplitValue) (passes : List SplitPass) (held : ObjectsValue) : Type 0 where
  pub workload : held.workload ≡ split.workload
  pub closing : Site → ℕ
  pub left : (x : Site) → Leaves split.workload own_lock (carried_to split) x split.streams (λ s. sights_from split (slice_get passes s))
      (object_at (opening_of_split split)) (object_at held) (closing x)
  pub clocks : (x : Site) → clock_at held x ≡ max (carried_to split x) (closing x)
