-- What a local operation plans.
use Rattle.std.proofs.Common.{◌≡◌, ℕ, [], IsSome, Option, None, Some, option_map, ap, refl, ◌∙◌}
use Rattle.abt_laws.proofs.Options.{none≢some, some-injective}
use Rattle.abt_machine.specs.declared.operations.Op.{Op}
use Rattle.abt_machine.specs.declared.operations.Op.TheVariants as op
use Rattle.abt_machine.specs.declared.workload.Parts.{Parts}
use Rattle.abt_machine.specs.Carrying.{advanced}
use Rattle.abt_machine.specs.Operations.{nature_of}
use Rattle.abt_machine.specs.Plans.{Does, Effect, Plan, keeps, local, plan_of}
use Rattle.abt_machine.specs.State.{Carried}
use Rattle.abt_machine.specs.Values.{Owned}
use Rattle.abt_unit.specs.Local.{after_local, with_carried}

module _ (W : Parts) (s : ℕ) (o : Owned) where
  -- this change of what the unit carries if there is one, and else this plan
  abbrev local_or : Option (Carried → Carried) → Plan → Plan
  local_or (Some f) plan = Does (local f o)
  local_or None plan = plan

  -- an operation that changes what the unit carries does no more
  planned-or : (a : Op) → plan_of W s a o ≡ local_or (nature_of a).local (plan_of W s a o)
  planned-or op.Exit = refl
  planned-or _ = refl

  own-by : (f : Option (Carried → Carried)) (plan : Plan) (b : Owned) → plan ≡ local_or f plan
      → option_map (with_carried o) (option_map (λ (f : Carried → Carried). advanced (f o.carried)) f) ≡ Some b → plan ≡ Does (keeps b [])
  own-by (Some f) plan b is e = is ∙ ap (λ (p : Owned). Does (keeps p [])) (some-injective e)
  own-by None plan b is e = absurd (none≢some e)

  alone-by : (f : Option (Carried → Carried)) (plan : Plan) → plan ≡ local_or f plan → IsSome (option_map (λ (f : Carried → Carried). advanced (f o.carried)) f) → (e : Effect) × (plan ≡ Does e)
  alone-by (Some f) plan is h = (local f o, is)
  alone-by None plan is h = cc

  -- the unit stays in the hand as it is afterwards
  pub planned-own : (a : Op) (b : Owned) → option_map (with_carried o) (after_local a o.carried) ≡ Some b → plan_of W s a o ≡ Does (keeps b [])
  planned-own a b e = own-by (nature_of a).local (plan_of W s a o) b (planned-or a) e

  -- no call is made
  pub planned-alone : (a : Op) → IsSome (after_local a o.carried) → (e : Effect) × (plan_of W s a o ≡ Does e)
  planned-alone a h = alone-by (nature_of a).local (plan_of W s a o) (planned-or a) h
