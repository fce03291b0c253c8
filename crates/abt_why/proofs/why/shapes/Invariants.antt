use Rattle.std.proofs.Common.{◌≡◌, take}
use Rattle.abt_order.specs.Stored.{shapes_of}
use Rattle.abt_why.proofs.why.shapes.Given as goal

abbrev pub invariant-loop-order : goal.invariant-loop-order
invariant-loop-order g l = l.shapes.items ≡ shapes_of (take l.order-index l.orders)
