use Rattle.std.proofs.Common.{◌<◌, ℕ}
use Rattle.abt_explore.specs.Orders.{MayChange}
use Rattle.abt_order.specs.Stored.{shapes_of}
use Rattle.abt_explore.proofs.orders.first_changing.Given as goal

abbrev pub invariant-loop-g : goal.invariant-loop-g
invariant-loop-g g l = (k : ℕ) → k < l.g → MayChange l.w (shapes_of l.orders) k → ⊥
