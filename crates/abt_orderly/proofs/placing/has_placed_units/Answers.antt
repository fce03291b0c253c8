use Rattle.std.proofs.Common.{◌≤◌, below_more, refl, subst, sym, ◌∙◌}
use Rattle.std.proofs.lemmas.Bool.{false≢true}
use Rattle.abt_orderly.specs.Listing.{IsPlacedUnit}
use Rattle.abt_orderly.proofs.Placed.{all-units}
use Rattle.abt_orderly.proofs.placing.has_placed_units.Goals as goal

pub returns-then-not-is_placed_unit : goal.returns-then-not-is_placed_unit
returns-then-not-is_placed_unit c = (λ t. absurd (false≢true t), λ placed. absurd (false≢true (sym c.if-not-is_placed_unit.true ∙ c.is_placed_unit.ensures.1 (placed c.loop-u.u))))

pub loop-u-preserved : goal.loop-u-preserved
loop-u-preserved c = below_more (IsPlacedUnit c.args.w.now) c.loop-u.u c.loop-u.invariant (c.is_placed_unit.ensures.0 c.if-not-is_placed_unit.false)

pub returns : goal.returns
returns c = (λ t. all-units c.args.w.now c.loop-u.u (subst (λ n. n ≤ c.loop-u.u) c.units-u-end.ensures c.loop-u-test.false) c.loop-u.invariant, λ placed. refl)
