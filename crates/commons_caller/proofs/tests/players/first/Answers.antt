use Rattle.std.proofs.Common.{◌≡◌, [], ◌∷◌, List, sym, ◌∙◌, subst}
use Rattle.std.specs.Prelude.{Box, Option, Some, None, IfNone, IfSome}
use Rattle.std.specs.List.{All}
use Rattle.std.specs.declared.alloc.Global.{Global}
use Rattle.std.proofs.lemmas.List.Elements.{All-head, All-tail}
use Rattle.abt_machine.specs.declared.workload.Parts.{Parts}
use Rattle.abt_machine.specs.Values.{Owned}
use Rattle.abt_unit.specs.Fits.{Fits}
use Rattle.abt_unit.specs.Units.{UnitValue}
use Rattle.commons_caller.proofs.tests.players.first.Goals as goal

-- the others are left
left-fit : (W : Parts) (taken : Option (Box UnitValue Global)) (old new : List Owned) → IfNone taken ((old ≡ []) × (new ≡ []))
    → IfSome taken (λ unit. old ≡ unit.value.owned ∷ new) → All (Fits W) old → All (Fits W) new
left-fit W None old new none some fit = subst (All (Fits W)) (none.0 ∙ sym none.1) fit
left-fit W (Some unit) old new none some fit = All-tail (Fits W) unit.value.owned new (subst (All (Fits W)) some fit)

-- the first one fits
first-fits : (W : Parts) (taken : Option (Box UnitValue Global)) (old new : List Owned) → IfSome taken (λ unit. old ≡ unit.value.owned ∷ new) → All (Fits W) old
    → IfSome taken (λ unit. Fits W unit.value.owned)
first-fits W None old new some fit = some
first-fits W (Some unit) old new some fit = All-head (Fits W) unit.value.owned new (subst (All (Fits W)) some fit)

pub returns-clause-fits : goal.returns-clause-fits
returns-clause-fits c = first-fits c.args.w.now c.take_front.result c.args.hand.now.units c.take_front.new.self.units c.take_front.ensures.first c.requires

pub returns-clause-hand : goal.returns-clause-hand
returns-clause-hand c = left-fit c.args.w.now c.take_front.result c.args.hand.now.units c.take_front.new.self.units c.take_front.ensures.none c.take_front.ensures.first c.requires
