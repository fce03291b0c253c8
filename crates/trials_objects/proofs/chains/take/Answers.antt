use Rattle.std.proofs.Common.{◌≡◌, inl, inr, Option, None, Some, IfSome, IfNone, Box}
use Rattle.std.specs.declared.alloc.Global.{Global}
use Rattle.abt_unit.specs.Units.{UnitValue}
use Rattle.abt_chain.specs.Links.{IsCounted, RisesByOne, Walk}
use Rattle.trials_objects.proofs.chains.take.Goals as goal

-- a call that finds a unit raises what is walked and owed by one, and another leaves it
counted : (o : Option (Box UnitValue Global)) (before after : Walk) → IfSome o (λ _. RisesByOne before after) → IfNone o (after ≡ before) → IsCounted before after
counted None before after some none = inr none
counted (Some unit) before after some none = inl some

pub returns : goal.returns
returns g c = counted c.take_front_counted.result _ _ c.take_front_counted.ensures.links c.take_front_counted.ensures.no_link
