-- The site of a plan.
use Rattle.std.proofs.Common.{◌≡◌, ◌∙◌, ℕ, Some, ap, refl, sym}
use Rattle.abt_machine.specs.declared.operations.Op.{Op}
use Rattle.abt_machine.specs.declared.workload.Parts.{Parts}
use Rattle.abt_machine.specs.EventSites.{plan_site, site_at, step_site}
use Rattle.abt_machine.specs.Plans.{plan_of}
use Rattle.abt_machine.specs.Start.{start}
use Rattle.abt_machine.specs.Values.{Owned, owned_at}
use Rattle.abt_machine.specs.Workloads.{op_at}
use Rattle.abt_plans.specs.declared.plans.Plan.{Plan}
use Rattle.abt_plans.specs.declared.plans.Plan.TheVariants as plan
use Rattle.abt_plans.specs.Shapes.{IsPlan, PlansFor, called_site}
use Rattle.abt_plans.proofs.Locals.{planned-alone}

-- it is the site of what the unit does
plan-calls : (W : Parts) (s : ℕ) (a : Op) (o : Owned) (p : Plan) → IsPlan W s a o p → plan_site (plan_of W s a o) ≡ called_site p
plan-calls W s a o plan.Own is = ap plan_site (planned-alone W s o a is).1
plan-calls W s a o plan.Yield is = ap plan_site is
plan-calls W s a o plan.Exit is = ap plan_site is
plan-calls W s a o plan.Deny is = ap plan_site is
plan-calls W s a o (plan.Ask x act) is = ap plan_site is
plan-calls W s a o (plan.Give x act) is = ap plan_site is

-- and that of a unit's step
pub step-calls : (W : Parts) (s u k : ℕ) (a : Op) (p : Plan) → Some a ≡ op_at W u k → PlansFor W s a u 0 p → called_site p ≡ step_site W s u k
step-calls W s u k a p at plans = let o : Owned = owned_at (start W) u in sym (plan-calls W s a o p (plans o refl refl)) ∙ ap (site_at W s u) at
