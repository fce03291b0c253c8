-- The next event of a stream, by what it holds.
use Rattle.std.specs.Prelude.{ℕ, ◌≡◌, ◌<◌, ◌-◌, ◌^◌, ◌⊎◌, List, length, IfSome, Option, None, Some}
use Rattle.abt_machine.specs.declared.events.What.{What}
use Rattle.abt_machine.specs.declared.operations.OrderShape.{OrderShape}
use Rattle.abt_machine.specs.Stored.{Stored}
use Rattle.abt_machine.specs.declared.workload.Parts.{Parts}
use Rattle.abt_machine.specs.Next.{RoundDue}
use Rattle.abt_machine.specs.Queues.{first}
use Rattle.abt_machine.specs.Rounds.{IsNextPool}
use Rattle.abt_machine.specs.Sound.{IsUnderWay}
use Rattle.abt_machine.specs.Turns.{due_of}
use Rattle.abt_machine.specs.Values.{Held, Owned}
use Rattle.abt_bounds.specs.Laws.{returned, visited}
use Rattle.abt_replay.specs.Events.{CannotCall, MakesEvent, ReturnsSaid}
use Rattle.abt_replay.specs.Objects.{ObjectsValue}

-- the unit's number and home are declared
pub record IsOfWorkload (W : Parts) (o : Owned) : Type 0 where
  pub number : o.number < length W.units
  pub home : o.carried.home < length W.pools

-- the units that the stream may move are the workload's, the round of its top frame is under way, and one round more can be counted
pub record CanMove (W : Parts) (orders : List OrderShape) (held : Held) : Type 0 where
  pub hand : IfSome held.hand (IsOfWorkload W)
  pub next : IfSome held.next (IsOfWorkload W)
  pub tray : IfSome (first held.tray) (IsOfWorkload W)
  pub round : IsUnderWay W orders held.own.top
  pub counted : held.own.top.round < 2 ^ 64 - 1

-- a round is due, and `named` visits no pool that may be next
abbrev pub CannotVisit : Parts → Stored → ℕ → Held → What → Type 0
CannotVisit W Z s old named = (due_of W s old ≡ RoundDue) × ((p : ℕ) → visited named ≡ Some p → IsNextPool W Z.orders old.own.top p → ⊥)

-- the event that stream s made: if a round is due, it visits the pool that `named` visits, and if it is a call, it returns what
-- `named` returned; it made none if `named` can be no such visit or no such call
abbrev pub MovesAs : Parts → Stored → ℕ → Held → ObjectsValue → What → Option What → Held → ObjectsValue → Type 0
MovesAs W Z s old before named (Some made) new after = MakesEvent W Z s old before made new after × (due_of W s old ≡ RoundDue → visited made ≡ visited named) × ReturnsSaid (returned named) made
MovesAs W Z s old before named None new after = CannotVisit W Z s old named ⊎ ((o : Owned) × CannotCall W Z s o old (returned named))
