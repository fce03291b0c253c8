-- What `--why` prints after a report: a line for each unit that is neither unborn nor ended, and one for each cycle.
use Rattle.std.specs.Prelude.{ℕ, suc, Bool, true, false, List, [], ◌∷◌, ◌++◌, map, flat_map, codes, decimal, Option, Some, None}
use Rattle.abt_machine.specs.declared.events.Shown.{Shown}
use Rattle.abt_machine.specs.declared.events.Shown.TheVariants as shows
use Rattle.abt_machine.specs.declared.events.Wish.{Wish}
use Rattle.abt_machine.specs.declared.events.Wish.TheVariants as wish
use Rattle.abt_machine.specs.declared.numbers.ObjectNo.{ObjectNo}
use Rattle.abt_machine.specs.declared.numbers.UnitNo.{UnitNo}
use Rattle.abt_machine.specs.declared.workload.Parts.{Parts}
use Rattle.abt_machine.specs.State.{State}
use Rattle.abt_machine.specs.Words.{Text, ended, line_of, spaced}
use Rattle.abt_why.specs.declared.waits.Awaited.{Awaited}
use Rattle.abt_why.specs.declared.waits.Holders.{Holders}
use Rattle.abt_why.specs.declared.waits.Holders.TheVariants as held
use Rattle.abt_why.specs.declared.waits.Wait.{Wait}
use Rattle.abt_why.specs.declared.waits.Wait.TheVariants as wait
use Rattle.abt_why.specs.Cycles.{cycles_by, waited_for}
use Rattle.abt_why.specs.Waits.{waits_in}

-- a word and a number, with a space before each
abbrev pub numbered_word : Text → ℕ → Text
numbered_word word n = spaced (word ∷ decimal n ∷ [])

-- where a unit is for which another waits
abbrev pub state_text : Shown → Text
state_text shows.Unborn = codes ", which is unborn"
state_text (shows.Pool p) = codes ", which is in" ++ numbered_word (codes "pool") p.0
state_text (shows.Stream s) = codes ", which is on" ++ numbered_word (codes "stream") s.0
state_text shows.Suspended = codes ", which is suspended"
state_text (shows.Join v) = codes ", which is blocked"
state_text (shows.Object x) = codes ", which is blocked"
state_text (shows.Ended c) = codes ", which has ended"

-- a unit for which another waits
abbrev pub awaited_text : Awaited → Text
awaited_text a = numbered_word (codes "unit") a.unit.0 ++ state_text a.shown

abbrev pub owner_text : Option Awaited → Text
owner_text None = []
owner_text (Some a) = codes ", owned by" ++ awaited_text a

abbrev pub wish_text : Wish → Text
wish_text wish.Read = codes " to read"
wish_text wish.Write = codes " to write"

abbrev pub readers_text : List UnitNo → Text
readers_text units = codes ", read by units" ++ spaced (map (λ (u : UnitNo). decimal u.0) units)

-- who holds a reader-writer lock
abbrev pub holders_text : Holders → Text
holders_text (held.Writer a) = codes ", written by" ++ awaited_text a
holders_text (held.Reader a) = codes ", read by" ++ awaited_text a
holders_text (held.Readers units) = readers_text units

-- how many of how many there are
abbrev pub share_text : ℕ → ℕ → Text
share_text k n = codes ", " ++ decimal k ++ codes " of " ++ decimal n

-- at an object
abbrev pub at_text : Text → ObjectNo → Text
at_text kind x = codes " at" ++ numbered_word kind x.0

abbrev pub pool_text : ℕ → Bool → Text
pool_text p true = codes " in" ++ numbered_word (codes "pool") p
pool_text p false = codes " in" ++ numbered_word (codes "pool") p ++ codes ", which no main scheduler lists"

-- what a unit waits for
abbrev pub wait_text : Wait → Text
wait_text wait.Nothing = []
wait_text (wait.Pool p listed) = pool_text p.0 listed
wait_text (wait.Stream s) = codes " on" ++ numbered_word (codes "stream") s.0
wait_text wait.Resume = codes " suspended"
wait_text (wait.Join a) = codes " joins" ++ awaited_text a
wait_text (wait.Mutex x owner) = at_text (codes "mutex") x ++ owner_text owner
wait_text (wait.Condition x m) = at_text (codes "condition") x ++ codes " of" ++ numbered_word (codes "mutex") m.0
wait_text (wait.Eventual x) = at_text (codes "eventual") x ++ codes ", which is not ready"
wait_text (wait.Future x k n) = at_text (codes "future") x ++ share_text k n ++ codes " values"
wait_text (wait.Barrier x k n) = at_text (codes "barrier") x ++ share_text k n ++ codes " parties"
wait_text (wait.RwLock x wish holders) = at_text (codes "rwlock") x ++ wish_text wish ++ holders_text holders

-- the line of unit u
abbrev pub unit_line : ℕ → Wait → Text
unit_line u w = ended (line_of (codes "unit" ∷ decimal u ∷ []) ++ wait_text w)

-- the same, if it waits for something
abbrev pub wait_line : ℕ → Wait → Text
wait_line u wait.Nothing = []
wait_line u w = unit_line u w

abbrev pub cycle_line : List ℕ → Text
cycle_line units = ended (line_of (codes "cycle" ∷ map decimal units))

-- the lines of units, the first of which has number u
abbrev pub wait_lines : ℕ → List Wait → Text
wait_lines u [] = []
wait_lines u (w ∷ ws) = wait_line u w ++ wait_lines (suc u) ws

-- the lines of all units, which wait for this, and of their cycles
abbrev pub text_of_waits : List Wait → Text
text_of_waits waits = wait_lines 0 waits ++ flat_map cycle_line (cycles_by (map waited_for waits))

-- what each unit of a state waits for that is neither unborn nor ended, and the cycles
abbrev pub why_text : Parts → State → Text
why_text W S = text_of_waits (waits_in W S)
