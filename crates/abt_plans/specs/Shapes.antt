-- What a stream does at an operation, by the shape of the call that it makes.
use Rattle.std.specs.Prelude.{ℕ, ◌≡◌, [], ◌∷◌, IsSome, Option, None, Some}
use Rattle.abt_machine.specs.declared.events.Site.{Site}
use Rattle.abt_machine.specs.declared.operations.Op.{Op}
use Rattle.abt_machine.specs.declared.workload.Parts.{Parts}
use Rattle.abt_machine.specs.Acts.{moved}
use Rattle.abt_machine.specs.Plans.{Calls, Does, Exits, denied, empties, plan_of}
use Rattle.abt_machine.specs.Values.{Owned}
use Rattle.abt_unit.specs.Local.{after_local}
use Rattle.abt_plans.specs.Acts.{asked, brought, given, told}
use Rattle.abt_plans.specs.declared.plans.Plan.{Plan}
use Rattle.abt_plans.specs.declared.plans.Plan.TheVariants as plan

-- what stream s does at operation a of unit o has this plan
abbrev pub IsPlan : Parts → ℕ → Op → Owned → Plan → Type 0
IsPlan W s a o plan.Own = IsSome (after_local a o.carried)
IsPlan W s a o plan.Yield = plan_of W s a o ≡ Does (empties (moved o ∷ []))
IsPlan W s a o plan.Exit = plan_of W s a o ≡ Exits (moved o)
IsPlan W s a o plan.Deny = plan_of W s a o ≡ denied o
IsPlan W s a o (plan.Ask x act) = plan_of W s a o ≡ Calls x (asked act) (told act o)
IsPlan W s a o (plan.Give x act) = plan_of W s a o ≡ Calls x (given act (moved o)) (brought act)

-- the same holds of each unit with number u and accumulator n
abbrev pub PlansFor : Parts → ℕ → Op → ℕ → ℕ → Plan → Type 0
PlansFor W s a u n p = (o : Owned) → o.number ≡ u → o.carried.acc ≡ n → IsPlan W s a o p

-- the site that a plan calls, if it calls one
abbrev pub called_site : Plan → Option Site
called_site plan.Own = None
called_site plan.Yield = None
called_site plan.Exit = None
called_site plan.Deny = None
called_site (plan.Ask x act) = Some x
called_site (plan.Give x act) = Some x
