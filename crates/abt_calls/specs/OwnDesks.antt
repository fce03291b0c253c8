-- A unit that ends or is suspended comes back to its own desk, and finds it out.
use Rattle.std.specs.Prelude.{ℕ, ◌≡◌, Option, Some, None, IsTrue, ⊤}
use Rattle.abt_machine.specs.declared.events.What.{What}
use Rattle.abt_machine.specs.Stored.{Stored}
use Rattle.abt_machine.specs.declared.workload.Parts.{Parts}
use Rattle.abt_machine.specs.State.{State}
use Rattle.abt_machine.specs.Values.{Owned, Held, Object, DeskIs, desk_value, object_of, part_of}
use Rattle.abt_machine.specs.Acts.{Act, End, Suspend}
use Rattle.abt_machine.specs.Desks.{takes_back}
use Rattle.abt_machine.specs.Turns.{Heard, Steps}

-- the object is the unit's own desk, which is out
abbrev pub TakesBack : Object → Owned → Type 0
TakesBack (DeskIs desk) o = IsTrue (takes_back desk o)
TakesBack object o = ⊥

-- a unit that comes back with the act comes to its own desk, which is out
abbrev pub IsTakenBack : Act → Object → Type 0
IsTakenBack (End o cause) object = TakesBack object o
IsTakenBack (Suspend o) object = TakesBack object o
IsTakenBack act object = ⊤

-- the call that was made, if one was, brings a unit back to its own desk alone
abbrev pub BringsBack : Parts → State → Option Heard → Type 0
BringsBack W S None = ⊤
BringsBack W S (Some h) = IsTakenBack h.1 (object_of W S h.0)

-- the desk of a unit that is in a stream's hand is out, and takes back this unit
abbrev pub HandsAreOut : Type 0
HandsAreOut = (W : Parts) (S : State) (s : ℕ) (o : Owned) → (part_of W S s).hand ≡ Some o → IsTrue (takes_back (desk_value W S o.number) o)

-- a step of a stream in a state brings a unit back to its own desk alone
abbrev pub StepsBringBack : Type 0
StepsBringBack =
    (W : Parts) (Z : Stored) (S : State) (s : ℕ) (what : What) (heard : Option Heard) (new : Held)
    → Steps W Z s (part_of W S s) what heard new → BringsBack W S heard
