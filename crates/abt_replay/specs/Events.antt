-- What each kind of event makes of a stream and of the objects.
use Rattle.std.specs.Prelude.{ℕ, ◌≡◌, ◌++◌, Bool, List, [], ◌∷◌, Option, Some, None, option_map, ⊤}
use Rattle.abt_machine.specs.declared.events.Cause.{Cause}
use Rattle.abt_machine.specs.declared.events.Code.{Code}
use Rattle.abt_machine.specs.declared.events.Code.TheVariants as code
use Rattle.abt_machine.specs.declared.events.Site.{Site}
use Rattle.abt_machine.specs.declared.events.Site.TheVariants as site
use Rattle.abt_machine.specs.declared.events.What.{What}
use Rattle.abt_machine.specs.declared.events.What.TheVariants as what
use Rattle.abt_machine.specs.declared.numbers.PoolNo.{PoolNo}
use Rattle.abt_machine.specs.declared.operations.Op.{Op}
use Rattle.abt_machine.specs.Stored.{IsNoCall, IsReturned, Returns, Stored}
use Rattle.abt_machine.specs.declared.workload.Parts.{Parts}
use Rattle.abt_machine.specs.Acts.{Act, Answer, moved, received}
use Rattle.abt_machine.specs.Acts as act
use Rattle.abt_machine.specs.Frames.{entered, left, round_missed, round_taken}
use Rattle.abt_machine.specs.Next.{StepDue}
use Rattle.abt_machine.specs.Numbers.{pool_no, unit_no}
use Rattle.abt_machine.specs.Plans.{Effect, keeps, plan_of}
use Rattle.abt_machine.specs.State.{State}
use Rattle.abt_machine.specs.Fronts.{side_of}
use Rattle.abt_machine.specs.Turns.{Heard, Performs, Steps, due_of, exited, looked, stepped}
use Rattle.abt_machine.specs.Values.{Held, Owned, object_of}
use Rattle.abt_machine.specs.Workloads.{op_at}
use Rattle.abt_calls.specs.Asking.{IsSite}
use Rattle.abt_unit.specs.Local.{after_local, with_carried}
use Rattle.abt_replay.specs.Objects.{Called, HasPlaces, ObjectsValue, object_at}

-- unit o of the tray goes home
pub record Woken (before : ObjectsValue) (o : Owned) (made : What) (after : ObjectsValue) : Type 0 where
  pub made_is : made ≡ what.Put (unit_no o.number) (pool_no o.carried.home)
  pub call : (answer : Answer) × Called before (site.Pool (pool_no o.carried.home)) (act.Put o) answer after

-- what was asked of taken unit o is looked at
pub record Looks (old : Held) (before : ObjectsValue) (o : Owned) (made : What) (new : Held) (after : ObjectsValue) : Type 0 where
  pub made_is : made ≡ what.Look (unit_no o.number)
  pub call : (cancel : Bool) × (migrate : Option ℕ) × Called before (site.Desk (unit_no o.number)) act.Look (act.Asks cancel migrate) after × (new ≡ looked old o cancel migrate)

-- unit o in hand ends
pub record Ends (old : Held) (before : ObjectsValue) (o : Owned) (cause : Cause) (made : What) (new : Held) (after : ObjectsValue) : Type 0 where
  pub made_is : made ≡ what.End (unit_no o.number) cause
  pub call : (os : List Owned) × Called before (site.Desk (unit_no o.number)) (act.End o cause) (act.Woke os) after × (new ≡ record old { hand = None; tray = old.tray ++ os })

-- unit o in hand runs as scheduler g
pub record Entered (g : ℕ) (old : Held) (o : Owned) (made : What) (new : Held) : Type 0 where
  pub made_is : made ≡ what.Enter (unit_no o.number)
  pub new_is : new ≡ record old { own = entered g old.own; hand = None; framed = old.framed ++ o ∷ [] }

-- the top frame is left, and its unit is in the hand
pub record Leaves (old : Held) (made : What) (new : Held) : Type 0 where
  pub unit : Owned
  pub framed : old.framed ≡ new.framed ++ unit ∷ []
  pub made_is : made ≡ what.Leave (unit_no unit.number)
  pub new_is : new ≡ record old { own = left old.own; hand = Some unit; framed = new.framed }

-- pool p is asked for a unit
abbrev pub Visits : Parts → ℕ → Held → ObjectsValue → PoolNo → What → Held → ObjectsValue → Type 0
Visits W s old before p (what.Miss q) new after =
    (q ≡ p) × Called before (site.Pool p) (act.Take (side_of W s p.0)) act.Miss after × (new ≡ record old { own = round_missed W p.0 old.own })
Visits W s old before p (what.Take q u) new after =
    (q ≡ p) × (o : Owned) × (u ≡ unit_no o.number) × Called before (site.Pool p) (act.Take (side_of W s p.0)) (act.Given o) after
    × (new ≡ record old { own = round_taken old.own; next = Some o })
Visits W s old before p made new after = ⊥

-- Steps.

-- a step without a call
abbrev pub Alone : Effect → Held → Code → Held → Type 0
Alone e old c new = (c ≡ e.code) × (new ≡ stepped old e)

-- a local operation
abbrev pub OwnStep : Op → Owned → Held → Code → Held → Type 0
OwnStep a o old c new = (b : Owned) × (option_map (with_carried o) (after_local a o.carried) ≡ Some b) × Alone (keeps b []) old c new

-- a step by which unit o ends itself
abbrev pub OwnExit : Owned → Held → Code → Held → Type 0
OwnExit o old c new = (c ≡ code.Ok) × (new ≡ exited old (moved o))

-- a step with a call of this act, whose answer has this effect
abbrev pub Asked : Site → Act → (Answer → Effect) → Held → ObjectsValue → Code → Held → ObjectsValue → Type 0
Asked x asked brings old before c new after = (answer : Answer) × Called before x asked answer after × Alone (brings answer) old c new

-- Events.

-- the call that was heard, if one was, is all that changed the objects
abbrev pub Heeds : ObjectsValue → Option Heard → ObjectsValue → Type 0
Heeds before None after = after ≡ before
Heeds before (Some h) after = Called before h.0 h.1 h.2 after

-- operation a of unit o in the hand of stream s
abbrev pub Operated : Parts → ℕ → Op → Owned → Held → ObjectsValue → Code → Held → ObjectsValue → Type 0
Operated W s a o old before c new after = (heard : Option Heard) × Performs old (plan_of W s a o) heard c new × Heeds before heard after

-- an event of stream s
abbrev pub MakesEvent : Parts → Stored → ℕ → Held → ObjectsValue → What → Held → ObjectsValue → Type 0
MakesEvent W Z s old before made new after = (heard : Option Heard) × Steps W Z s old made heard new × Heeds before heard after

-- the objects are those of some state, and no others
abbrev pub AreObjects : Parts → ObjectsValue → Type 0
AreObjects W objects = (S : State) × ((x : Site) → IsSite W x → object_at objects x ≡ object_of W S x) × HasPlaces W objects

-- what the stream holds, with unit o in hand
abbrev pub in_hand : Owned → Held → Held
in_hand o held = record held { hand = Some o }

-- a step of unit o, whose operation is a
abbrev pub Stepped : Parts → ℕ → Op → Owned → Held → ObjectsValue → What → Held → ObjectsValue → Type 0
Stepped W s a o old before made new after =
    (c : Code) × (made ≡ what.Step (unit_no o.number) o.carried.position c) × Operated W s a o old before c new after

-- Calls.

-- unit o calls a function that returns this, if that may be the number that is said
abbrev pub CallsBy : (ℕ → ℕ → List ℕ → Option ℕ) → Owned → Held → Option ℕ → Option What → Held → Type 0
CallsBy returns o old said (Some made) new =
    (n : ℕ) × (said ≡ Some n) × IsReturned (returns o.number o.carried.acc o.carried.keys) n
    × (made ≡ what.Call (unit_no o.number) o.carried.position n) × (new ≡ stepped old (keeps (received n (moved o)) []))
CallsBy returns o old said None new = (n : ℕ) → said ≡ Some n → IsReturned (returns o.number o.carried.acc o.carried.keys) n → ⊥

-- if the event is a call, it returned the number that is said
abbrev pub ReturnsSaid : Option ℕ → What → Type 0
ReturnsSaid said (what.Call u k n) = said ≡ Some n
ReturnsSaid said made = ⊤

-- unit o in the hand of stream s is to call a function, which may not return the number that is said
pub record CannotCall (W : Parts) (Z : Stored) (s : ℕ) (o : Owned) (held : Held) (said : Option ℕ) : Type 0 where
  pub due : due_of W s held ≡ StepDue
  pub hand : held.hand ≡ Some o
  pub calls : IsNoCall (op_at W o.number o.carried.position) → ⊥
  pub returns : (n : ℕ) → said ≡ Some n → Returns Z (op_at W o.number o.carried.position) o.number o.carried n → ⊥

-- the event of a stream with unit o in its hand, in which a call returns the number that is said; there is none if the unit cannot call
abbrev pub Runs : Parts → Stored → ℕ → Owned → Held → ObjectsValue → Option ℕ → Option What → Held → ObjectsValue → Type 0
Runs W Z s o old before said (Some made) new after = MakesEvent W Z s (in_hand o old) before made new after × ReturnsSaid said made
Runs W Z s o old before said None new after = CannotCall W Z s o (in_hand o old) said
