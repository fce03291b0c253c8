use Rattle.std.proofs.Common.{ℕ, ◌≡◌, ◌<◌, List}
use Rattle.abt_machine.specs.declared.events.Event.{Event}
use Rattle.abt_machine.specs.Outcomes.{Spent}
use Rattle.abt_machine.specs.Stored.{Stored}
use Rattle.abt_schedule.specs.Reaching.{IsReached}
use Rattle.abt_schedule.proofs.reached.Reached.first_spent.Given as goal

abbrev pub invariant-loop-s : goal.invariant-loop-s
invariant-loop-s l = record {
  none : (Z : Stored) (J : List Event) → IsReached l.w Z J l.self → (r : ℕ) → r < l.s → Spent l.w l.steps J r → ⊥;
  end : l.s-end ≡ l.w.streams;
}
