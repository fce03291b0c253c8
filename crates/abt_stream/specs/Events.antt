-- What a stream is after an event.
use Rattle.std.specs.Prelude.{ℕ, suc, ◌≡◌, ◌≢◌, ◌<◌, ◌-◌, ◌^◌, ◌⊎◌, Bool, true, false, List, [], ◌∷◌, ◌++◌, length, Option, Some, None}
use Rattle.abt_machine.specs.declared.events.Cause.{Cause}
use Rattle.abt_machine.specs.declared.events.Code.{Code}
use Rattle.abt_machine.specs.declared.events.Code.TheVariants as code
use Rattle.abt_machine.specs.declared.events.Site.{Site}
use Rattle.abt_machine.specs.declared.events.Site.TheVariants as site
use Rattle.abt_machine.specs.declared.events.What.{What}
use Rattle.abt_machine.specs.declared.events.What.TheVariants as what
use Rattle.abt_machine.specs.declared.operations.Side.{Side}
use Rattle.abt_machine.specs.declared.numbers.PoolNo.{PoolNo}
use Rattle.abt_machine.specs.declared.workload.Parts.{Parts}
use Rattle.abt_machine.specs.Acts.{Act, Answer, moved, received}
use Rattle.abt_machine.specs.Acts as act
use Rattle.abt_machine.specs.Frames.{entered, frame_at, left, round_taken}
use Rattle.abt_machine.specs.Numbers.{pool_no, unit_no}
use Rattle.abt_machine.specs.Outcomes.{steps_in}
use Rattle.abt_machine.specs.Plans.{Effect, keeps}
use Rattle.abt_machine.specs.State.{Frame, Stream}
use Rattle.abt_machine.specs.Stored.{IsReturned}
use Rattle.abt_order.specs.Schedulers.{IsSchedulerOf}
use Rattle.abt_machine.specs.Turns.{exited, looked, stepped}
use Rattle.abt_machine.specs.Values.{Held, Owned}
use Rattle.abt_unit.specs.Local.{local_step}
use Rattle.abt_commons.specs.Replies.{Told, Done, Worn}
use Rattle.abt_stream.specs.declared.turns.Turn.{Turn}
use Rattle.abt_stream.specs.declared.turns.Turn.TheVariants as turn
use Rattle.abt_stream.specs.Streams.{FrameValue, Rooms, StreamValue}

abbrev pub IfHeld : Option Owned → (Owned → Type 0) → Type 0
IfHeld None P = ⊥
IfHeld (Some o) P = P o

abbrev pub IfFirst : List Owned → (Owned → List Owned → Type 0) → Type 0
IfFirst [] P = ⊥
IfFirst (o ∷ os) P = P o os

-- the stream once it has written this event with this stamp, and has this room left
abbrev pub wrote : StreamValue → What → ℕ → Rooms → StreamValue
wrote s w stamp rooms = record s { clock = stamp; log = s.log ++ record { stamp = stamp; stream = s.number; what = w } ∷ []; rooms = rooms }

-- the stream with this in place of what it held
abbrev pub holding : StreamValue → Held → StreamValue
holding s held = record s { held = held }

-- one call with its answer, after which the stream is this but for the event
pub record Called {P : Type 0} (moves : P → Site → ℕ → Act → Told → P → Type 0) (old : StreamValue) (before : P) (x : Site) (asked : Act) (answer : Answer) (becomes : StreamValue) (w : What) (new : StreamValue) (after : P) : Type 0 where
  pub went : moves before x old.clock asked (Done new.clock answer) after
  pub same : new ≡ wrote becomes w new.clock new.rooms

-- one call that met a worn clock
pub record IsWorn {P : Type 0} (moves : P → Site → ℕ → Act → Told → P → Type 0) (old : StreamValue) (before : P) (x : Site) (asked : Act) (new : StreamValue) (after : P) : Type 0 where
  pub went : moves before x old.clock asked Worn after
  pub same : new ≡ old

abbrev pub PutBy : {P : Type 0} → (P → Site → ℕ → Act → Told → P → Type 0) → StreamValue → P → Turn → StreamValue → P → Owned → List Owned → Type 0
PutBy moves old before turn.Moved new after o os =
    Called moves old before (site.Pool (pool_no o.carried.home)) (act.Put o) act.Rested (holding old (record old.held { tray = os })) (what.Put (unit_no o.number) (pool_no o.carried.home)) new after
PutBy moves old before turn.Worn new after o os = IsWorn moves old before (site.Pool (pool_no o.carried.home)) (act.Put o) new after
PutBy moves old before t new after o os = ⊥

abbrev pub LookBy : {P : Type 0} → (P → Site → ℕ → Act → Told → P → Type 0) → StreamValue → P → Turn → StreamValue → P → Owned → Type 0
LookBy moves old before turn.Moved new after o =
    (cancel : Bool) × (migrate : Option ℕ)
    × Called moves old before (site.Desk (unit_no o.number)) act.Look (act.Asks cancel migrate) (holding old (looked old.held o cancel migrate)) (what.Look (unit_no o.number)) new after
LookBy moves old before turn.Worn new after o = IsWorn moves old before (site.Desk (unit_no o.number)) act.Look new after
LookBy moves old before t new after o = ⊥

abbrev pub EndBy : {P : Type 0} → (P → Site → ℕ → Act → Told → P → Type 0) → StreamValue → P → Cause → Turn → StreamValue → P → Owned → Type 0
EndBy moves old before cause turn.Moved new after o =
    (os : List Owned)
    × Called moves old before (site.Desk (unit_no o.number)) (act.End o cause) (act.Woke os) (holding old (record old.held { hand = None; tray = old.held.tray ++ os })) (what.End (unit_no o.number) cause) new after
EndBy moves old before cause turn.Worn new after o = IsWorn moves old before (site.Desk (unit_no o.number)) (act.End o cause) new after
EndBy moves old before cause t new after o = ⊥

-- Steps.

abbrev pub step_of : Owned → Code → What
step_of o c = what.Step (unit_no o.number) o.carried.position c

-- a call by unit o, in which the function returned n
abbrev pub call_of : Owned → ℕ → What
call_of o n = what.Call (unit_no o.number) o.carried.position n

-- the stream after a step with this effect
abbrev pub after_step : StreamValue → Effect → StreamValue
after_step old e = holding old (stepped old.held e)

-- a step without a call
abbrev pub StepsAlone : StreamValue → Effect → Turn → StreamValue → Owned → Type 0
StepsAlone old e turn.Stepped new o = new ≡ wrote (after_step old e) (step_of o e.code) (suc old.clock) new.rooms
StepsAlone old e turn.Worn new o = (old.clock ≡ 2 ^ 62) × (new ≡ old)
StepsAlone old e t new o = ⊥

-- a step by which the unit in hand ends itself
abbrev pub ExitBy : StreamValue → Turn → StreamValue → Owned → Type 0
ExitBy old turn.Stepped new o = new ≡ wrote (holding old (exited old.held (moved o))) (step_of o code.Ok) (suc old.clock) new.rooms
ExitBy old turn.Worn new o = (old.clock ≡ 2 ^ 62) × (new ≡ old)
ExitBy old t new o = ⊥

-- a step with a call of this act, and what each answer brings
abbrev pub StepsBy : {P : Type 0} → (P → Site → ℕ → Act → Told → P → Type 0) → StreamValue → P → Site → Act → (Answer → Effect) → Turn → StreamValue → P → Owned → Type 0
StepsBy moves old before x asked brings turn.Stepped new after o =
    (answer : Answer) × Called moves old before x asked answer (after_step old (brings answer)) (step_of o (brings answer).code) new after
StepsBy moves old before x asked brings turn.Worn new after o = IsWorn moves old before x asked new after
StepsBy moves old before x asked brings t new after o = ⊥

-- Rounds.

-- the round ends with a taken unit
abbrev pub took : StreamValue → Owned → StreamValue
took s o = record s {
  held = record s.held { own = round_taken s.held.own; next = Some o };
  top = record s.top { round = suc s.top.round; empty = false };
  order = [];
  at = 0;
}

-- this frame in place of the top one
abbrev pub with_top : Frame → Stream → Stream
with_top f own = record own { top = f }

-- the round goes on after a missed pool
abbrev pub passed : StreamValue → PoolNo → StreamValue
passed s p = record s {
  held = record s.held { own = with_top (record s.held.own.top { seen = s.held.own.top.seen ++ p.0 ∷ []; empty = false }) s.held.own };
  top = record s.top { empty = false };
  at = suc s.at;
}

-- the round ends empty
abbrev pub emptied : StreamValue → StreamValue
emptied s = record s {
  held = record s.held { own = with_top (frame_at s.held.own.top.sched (suc s.held.own.top.round) true) s.held.own };
  top = record s.top { round = suc s.top.round; empty = true };
  order = [];
  at = 0;
}

-- what the answer of a pool makes of the stream, and whether it ends the round empty
abbrev pub VisitedBy : StreamValue → PoolNo → Answer → Turn → StreamValue → Type 0
VisitedBy old p (act.Given o) turn.Moved new = new ≡ wrote (took old o) (what.Take p (unit_no o.number)) new.clock new.rooms
VisitedBy old p act.Miss turn.Moved new = (new ≡ wrote (passed old p) (what.Miss p) new.clock new.rooms) × (suc old.at ≢ length old.order)
VisitedBy old p act.Miss turn.EmptyRound new = (new ≡ wrote (emptied old) (what.Miss p) new.clock new.rooms) × (suc old.at ≡ length old.order)
VisitedBy old p answer t new = ⊥

-- the visit of a pool
abbrev pub VisitBy : {P : Type 0} → (P → Site → ℕ → Act → Told → P → Type 0) → StreamValue → P → PoolNo → Side → Turn → StreamValue → P → Type 0
VisitBy moves old before p d t new after =
    ((t ≡ turn.Worn) × IsWorn moves old before (site.Pool p) (act.Take d) new after)
    ⊎ ((answer : Answer) × moves before (site.Pool p) old.clock (act.Take d) (Done new.clock answer) after × VisitedBy old p answer t new)

-- Frames.

-- a frame that begins
pub record IsFreshFrame (W : Parts) (g : ℕ) (f : FrameValue) : Type 0 where
  pub scheduler : IsSchedulerOf W f.scheduler
  pub number : f.scheduler.number ≡ g
  pub before : f.scheduler.round ≡ 0
  pub round : f.round ≡ 0
  pub empty : f.empty ≡ false

-- the scheduler unit in hand runs on top of the frames that there are
abbrev pub entering : ℕ → StreamValue → FrameValue → Owned → StreamValue
entering g s f o = record s {
  held = record s.held { own = entered g s.held.own; hand = None; framed = s.held.framed ++ o ∷ [] };
  top = f;
  below = s.below ++ s.top ∷ [];
}

abbrev pub EnterBy : Parts → ℕ → StreamValue → Turn → StreamValue → Owned → Type 0
EnterBy W g old turn.Moved new o = IsFreshFrame W g new.top × (new ≡ wrote (entering g old new.top o) (what.Enter (unit_no o.number)) (suc old.clock) new.rooms)
EnterBy W g old turn.Worn new o = (old.clock ≡ 2 ^ 62) × (new ≡ old)
EnterBy W g old t new o = ⊥

-- the top frame is gone, and its unit is in the hand
abbrev pub leaving : StreamValue → List Owned → Owned → FrameValue → List FrameValue → StreamValue
leaving s os o f fs = record s {
  held = record s.held { own = left s.held.own; hand = Some o; framed = os };
  top = f;
  below = fs;
  order = [];
  at = 0;
}

pub record Leaves (old new : StreamValue) (os : List Owned) (o : Owned) : Type 0 where
  pub framed : old.held.framed ≡ os ++ o ∷ []
  pub below : old.below ≡ new.below ++ new.top ∷ []
  pub same : new ≡ wrote (leaving old os o new.top new.below) (what.Leave (unit_no o.number)) (suc old.clock) new.rooms

abbrev pub LeaveBy : StreamValue → Turn → StreamValue → Type 0
LeaveBy old turn.Moved new = (os : List Owned) × (o : Owned) × Leaves old new os o
LeaveBy old turn.Worn new = (old.clock ≡ 2 ^ 62) × (new ≡ old)
LeaveBy old t new = ⊥

-- the stream may make a step
pub record CanStep (s : StreamValue) : Type 0 where
  pub hand : IfHeld s.held.hand (λ o. o.carried.position < 2 ^ 32 - 1)
  pub few : steps_in s.log < s.budget
  pub events : 0 < s.rooms.events
  pub output : 0 < s.rooms.output

-- a local operation
abbrev pub OwnBy : Parts → StreamValue → Turn → StreamValue → Owned → Type 0
OwnBy W old turn.Stepped new o = (b : Owned) × (local_step W o ≡ Some b) × StepsAlone old (keeps b []) turn.Stepped new o
OwnBy W old turn.Worn new o = StepsAlone old (keeps o []) turn.Worn new o
OwnBy W old t new o = ⊥

-- a call of a function that returns this for a unit's number, accumulator and keys: the unit receives what was returned
abbrev pub CallBy : (ℕ → ℕ → List ℕ → Option ℕ) → StreamValue → Turn → StreamValue → Owned → Type 0
CallBy returns old turn.Stepped new o =
    (n : ℕ) × IsReturned (returns o.number o.carried.acc o.carried.keys) n
    × (new ≡ wrote (after_step old (keeps (received n (moved o)) [])) (call_of o n) (suc old.clock) new.rooms)
CallBy returns old turn.Worn new o = (old.clock ≡ 2 ^ 62) × (new ≡ old)
CallBy returns old t new o = ⊥
