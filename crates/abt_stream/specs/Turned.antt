-- What a turn is.
use Rattle.std.specs.Prelude.{ℕ, suc, ◌≡◌, ◌≢◌, ◌<◌, ◌^◌, ◌+◌, ◌⊎◌, ⊤, true, List, [], ◌∷◌, ◌++◌, length, Option, Some, None, IsPermutation, IsSome}
use Rattle.abt_machine.specs.declared.events.Site.{Site}
use Rattle.abt_machine.specs.declared.events.What.{What}
use Rattle.abt_machine.specs.declared.events.What.TheVariants as what
use Rattle.abt_machine.specs.declared.numbers.PoolNo.{PoolNo}
use Rattle.abt_machine.specs.declared.operations.OrderShape.{OrderShape}
use Rattle.abt_machine.specs.Rounds.{IsOrder}
use Rattle.abt_machine.specs.Stored.{Stored}
use Rattle.abt_machine.specs.declared.workload.Parts.{Parts}
use Rattle.abt_machine.specs.Acts.{Act, Answer}
use Rattle.abt_machine.specs.Next.{RoundDue, StepDue}
use Rattle.abt_machine.specs.Outcomes.{is_step, steps_in}
use Rattle.abt_machine.specs.Turns.{Heard, Steps, due_of}
use Rattle.abt_machine.specs.Values.{Held}
use Rattle.abt_machine.specs.Workloads.{pools_of}
use Rattle.abt_commons.specs.Replies.{Told, Done, Worn}
use Rattle.abt_order.specs.Schedulers.{IsSchedulerOf, pool_numbers}
use Rattle.abt_stream.specs.declared.turns.Turn.{Turn}
use Rattle.abt_stream.specs.declared.turns.Turn.TheVariants as turn
use Rattle.abt_stream.specs.Streams.{StreamValue}

-- the pass moved by the call that was made, and stayed if none was; the clock is the event's stamp
abbrev pub Went : {P : Type 0} → (P → Site → ℕ → Act → Told → P → Type 0) → ℕ → P → Option Heard → ℕ → P → Type 0
Went moves at before None stamp after = (stamp ≡ suc at) × (after ≡ before)
Went moves at before (Some h) stamp after = moves before h.0 at h.1 (Done stamp h.2) after

-- an event that may come next makes this call
abbrev pub IsNextCall : Parts → Stored → ℕ → Held → Site → Act → Type 0
IsNextCall W Z s held x asked = (w : What) × (answer : Answer) × (later : Held) × Steps W Z s held w (Some (x, asked, answer)) later

-- an event that may come next makes no call
abbrev pub MakesNoCall : Parts → Stored → ℕ → Held → Type 0
MakesNoCall W Z s held = (w : What) × (later : Held) × Steps W Z s held w None later

-- no event, since a clock is at its end: the stream's own if the next event makes no call, else the one that its call met
abbrev pub MetEnd : {P : Type 0} → (P → Site → ℕ → Act → Told → P → Type 0) → Parts → Stored → StreamValue → P → P → Type 0
MetEnd moves W Z s before after =
    (MakesNoCall W Z s.number.0 s.held × (s.clock ≡ 2 ^ 62) × (after ≡ before))
    ⊎ ((x : Site) × (asked : Act) × IsNextCall W Z s.number.0 s.held x asked × moves before x s.clock asked Worn after)

-- one event of the stream
pub record Made {P : Type 0} (moves : P → Site → ℕ → Act → Told → P → Type 0) (W : Parts) (Z : Stored) (old : StreamValue) (before : P) (w : What) (new : StreamValue) (after : P) : Type 0 where
  pub heard : Option Heard
  pub steps : Steps W Z old.number.0 old.held w heard new.held
  pub went : Went moves old.clock before heard new.clock after
  pub log : new.log ≡ old.log ++ record { stamp = new.clock; stream = old.number; what = w } ∷ []

-- the pool that was missed was the last of its round
abbrev pub MissesLast : Parts → StreamValue → Type 0
MissesLast W s = suc (length s.held.own.top.seen) ≡ length (pools_of W s.held.own.top.sched)

-- an event that is not a step and does not end a round empty
abbrev pub IsMove : Parts → StreamValue → What → Type 0
IsMove W old (what.Miss p) = MissesLast W old → ⊥
IsMove W old (what.Take p u) = ⊤
IsMove W old (what.Look u) = ⊤
IsMove W old (what.Step u k c) = ⊥
IsMove W old (what.Call u k n) = ⊥
IsMove W old (what.Put u p) = ⊤
IsMove W old (what.End u c) = ⊤
IsMove W old (what.Enter u) = ⊤
IsMove W old (what.Leave u) = ⊤

-- the stream has made its steps, and would make another
abbrev pub IsSpent : Parts → StreamValue → Type 0
IsSpent W s = (due_of W s.number.0 s.held ≡ StepDue) × (steps_in s.log ≡ s.budget)

-- a turn, by its answer
abbrev pub Turned : {P : Type 0} → (P → Site → ℕ → Act → Told → P → Type 0) → Parts → Stored → StreamValue → P → Turn → StreamValue → P → Type 0
Turned moves W Z old before turn.Stepped new after =
    (w : What) × Made moves W Z old before w new after × (is_step w ≡ true) × (steps_in old.log < old.budget)
Turned moves W Z old before turn.EmptyRound new after = (p : PoolNo) × Made moves W Z old before (what.Miss p) new after × MissesLast W old
Turned moves W Z old before turn.Moved new after = (w : What) × Made moves W Z old before w new after × IsMove W old w
Turned moves W Z old before turn.Spent new after = IsSpent W old × (new ≡ old) × (after ≡ before)
Turned moves W Z old before turn.Worn new after = (new ≡ old) × MetEnd moves W Z old before after × (IsSpent W old → ⊥)

-- there is room for what the unit in hand may need: one frame and its unit, and one piece of output
pub record HasHandRoom (s : StreamValue) : Type 0 where
  pub frames : 0 < s.rooms.frames
  pub units : 0 < s.rooms.units
  pub output : 0 < s.rooms.output

-- there is room for one event, and for what the unit in hand may need
abbrev pub HasRoom : StreamValue → Type 0
HasRoom s = (0 < s.rooms.events) × (IsSome s.held.hand → HasHandRoom s)

-- the stream has what one turn needs
pub record IsReady (W : Parts) (s : StreamValue) : Type 0 where
  pub events : 0 < s.rooms.events
  pub hand : IsSome s.held.hand → HasHandRoom s
  pub order : due_of W s.number.0 s.held ≡ RoundDue → s.order ≢ []
  pub few : length s.log < 2 ^ 55

-- all is as it was, except room, and the order and the scheduler of the round that is to come
abbrev pub IsPrepared : StreamValue → StreamValue → Type 0
IsPrepared old new = new ≡ record old { top = record old.top { scheduler = new.top.scheduler }; order = new.order; rooms = new.rooms }

-- the order of the next round is held, and the top frame's scheduler is before the round after that
pub record HoldsNext (W : Parts) (Z : List OrderShape) (old new : StreamValue) : Type 0 where
  pub order : IsOrder W Z old.top.scheduler.number old.top.scheduler.round (pool_numbers new.order)
  pub permutes : IsPermutation (pools_of W old.top.scheduler.number) (pool_numbers new.order)
  pub number : new.top.scheduler.number ≡ old.top.scheduler.number
  pub next : new.top.scheduler.round ≡ old.top.scheduler.round + 1
  pub scheduler : IsSchedulerOf W new.top.scheduler
  pub some : new.order ≢ []
  pub same : IsPrepared old new
