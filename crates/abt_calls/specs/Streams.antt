-- What every event of a stream keeps.
use Rattle.std.specs.Prelude.{ℕ, ◌≡◌, ◌⊎◌, Option, Some, None, ⊤}
use Rattle.std.specs.List.{All}
use Rattle.abt_machine.specs.declared.events.What.{What}
use Rattle.abt_machine.specs.Stored.{Stored}
use Rattle.abt_machine.specs.declared.workload.Parts.{Parts}
use Rattle.abt_machine.specs.Valid.{IsValid}
use Rattle.abt_machine.specs.State.{State}
use Rattle.abt_machine.specs.Sound.{Sound}
use Rattle.abt_machine.specs.Values.{Held, part_of}
use Rattle.abt_machine.specs.Turns.{Heard, Steps}
use Rattle.abt_unit.specs.Fits.{Fits}
use Rattle.abt_chain.specs.Keeping.{Contents, Have, IsPoolOf, contents_answered, contents_asked, no_contents}
use Rattle.abt_calls.specs.Holders.{units_held}
use Rattle.abt_calls.specs.Suits.{Suits}
use Rattle.abt_calls.specs.Units.{KeepsEach}

-- there is not a unit in hand and one in Next at the same time
abbrev pub HoldsOne : Held → Type 0
HoldsOne held = (held.hand ≡ None) ⊎ (held.next ≡ None)

-- what went with the call that was made, if one was
abbrev pub contents_sent : Option Heard → Contents
contents_sent None = no_contents
contents_sent (Some h) = contents_asked h.1

-- what came out of it
abbrev pub contents_heard : Option Heard → Contents
contents_heard None = no_contents
contents_heard (Some h) = contents_answered h.2

-- its answer suits its act
abbrev pub IsSuited : Option Heard → Type 0
IsSuited None = ⊤
IsSuited (Some h) = Suits h.1 h.2

-- a stream of a sound state does not hold both
abbrev pub StreamsHoldOne : Type 0
StreamsHoldOne = (W : Parts) (Z : Stored) (S : State) (s : ℕ) → Sound W Z S → HoldsOne (part_of W S s)

-- nor does one that held at most one of them, after an event
abbrev pub EventsHoldOne : Type 0
EventsHoldOne =
    (W : Parts) (Z : Stored) (s : ℕ) (old : Held) (what : What) (heard : Option Heard) (new : Held)
    → Steps W Z s old what heard new → HoldsOne old → HoldsOne new

-- the units that a stream has after an event fit the workload, if those before it and what it heard do
abbrev pub EventsFit : Type 0
EventsFit =
    (W : Parts) (Z : Stored) (s : ℕ) (old : Held) (what : What) (heard : Option Heard) (new : Held)
    → IsValid W → Steps W Z s old what heard new → All (Fits W) (units_held old) → Have (Fits W) (IsPoolOf W) (contents_heard heard)
    → All (Fits W) (units_held new)

-- a stream has the units that it had and that came, except the one that went
abbrev pub EventsKeepUnits : Type 0
EventsKeepUnits =
    (W : Parts) (Z : Stored) (s : ℕ) (old : Held) (what : What) (heard : Option Heard) (new : Held)
    → Steps W Z s old what heard new → HoldsOne old → IsSuited heard
    → KeepsEach (units_held old) (contents_heard heard).units (units_held new) (contents_sent heard).units
