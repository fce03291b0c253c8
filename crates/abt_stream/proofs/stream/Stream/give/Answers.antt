use Rattle.std.proofs.Common.{◌≡◌, Box, Global, List, [], ◌∷◌, subst, sym, ◌∙◌}
use Rattle.abt_machine.specs.declared.numbers.PoolNo.{PoolNo}
use Rattle.abt_unit.specs.Units.{UnitValue}
use Rattle.abt_stream.specs.declared.parts.Current.{Current}
use Rattle.abt_stream.specs.declared.parts.Current.TheVariants as currents
use Rattle.abt_stream.specs.Streams.{IsOrderly, behind_of, order_of}
use Rattle.abt_stream.proofs.stream.Stream.give.Goals as goal

-- no order is held while a unit is in hand, so none is held after it
orderly : (ps : List PoolNo) (unit : Box UnitValue Global) (w : Current) → IsOrderly ps (currents.Running unit) → IsOrderly ps w
orderly [] unit w h = tt
orderly (p ∷ ps) unit w h = absurd h

pub invariant_of-self : goal.invariant_of-self
invariant_of-self g c =
    let held : c.self.inside.current ≡ currents.Running c.running-unit.result.0 = sym c.replace.ensures.value ∙ c.running-unit.ensures.unit in
    let order : List PoolNo = order_of c.self.inside.begun c.self.inside.order.items in (
      subst (λ (w : Current). behind_of w ≡ []) (sym c.fill.ensures) c.returned-current.ensures.free,
      c.self.invariant.1,
      c.self.invariant.2,
      c.self.invariant.3,
      orderly order c.running-unit.result.0 c.fill.new.self (subst (IsOrderly order) held c.self.invariant.4),
      c.self.invariant.5,
      c.self.invariant.6,
      c.self.invariant.7,
      c.self.invariant.8,
      c.self.invariant.9,
      c.self.invariant.10,
      c.self.invariant.11,
    )
