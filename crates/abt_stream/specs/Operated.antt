-- What the operation of the unit in hand makes of a stream.
use Rattle.std.specs.Prelude.{ℕ, ◌≡◌, ◌^◌, Option}
use Rattle.abt_machine.specs.declared.events.Code.{Code}
use Rattle.abt_machine.specs.declared.events.Site.{Site}
use Rattle.abt_machine.specs.declared.operations.Op.{Op}
use Rattle.abt_machine.specs.declared.workload.Parts.{Parts}
use Rattle.abt_machine.specs.Acts.{Act}
use Rattle.abt_machine.specs.Plans.{Calls, Does, Exits, Plan, plan_of}
use Rattle.abt_machine.specs.Turns.{Heard, Performs}
use Rattle.abt_machine.specs.Values.{Owned}
use Rattle.abt_commons.specs.Replies.{Told, Worn}
use Rattle.abt_stream.specs.declared.turns.Turn.{Turn}
use Rattle.abt_stream.specs.declared.turns.Turn.TheVariants as turn
use Rattle.abt_stream.specs.Events.{holding, step_of, wrote}
use Rattle.abt_stream.specs.Streams.{StreamValue}
use Rattle.abt_stream.specs.Turned.{Went}

-- what is planned is not performed, since a clock is at its end: the one that its call met, or the stream's own if it calls nothing
abbrev pub NotPerformed : {P : Type 0} → (P → Site → ℕ → Act → Told → P → Type 0) → StreamValue → P → Plan → P → Type 0
NotPerformed moves s before (Does e) after = (s.clock ≡ 2 ^ 62) × (after ≡ before)
NotPerformed moves s before (Calls x asked brings) after = moves before x s.clock asked Worn after
NotPerformed moves s before (Exits o) after = (s.clock ≡ 2 ^ 62) × (after ≡ before)

-- operation a of the unit in hand
abbrev pub OpBy : {P : Type 0} → (P → Site → ℕ → Act → Told → P → Type 0) → Parts → StreamValue → P → Op → Turn → StreamValue → P → Owned → Type 0
OpBy moves W old before a turn.Stepped new after o =
    (heard : Option Heard) × (c : Code) × Performs old.held (plan_of W old.number.0 a o) heard c new.held
    × Went moves old.clock before heard new.clock after
    × (new ≡ wrote (holding old new.held) (step_of o c) new.clock new.rooms)
OpBy moves W old before a turn.Worn new after o = (new ≡ old) × NotPerformed moves old before (plan_of W old.number.0 a o) after
OpBy moves W old before a t new after o = ⊥
