-- From what each shape of step makes of a stream to its operation.
use Rattle.std.proofs.Common.{◌≡◌, ◌<◌, ◌-◌, ◌^◌, ℕ, [], ◌∷◌, length, Option, None, Some, refl, sym, subst, IsSome, arith}
use Rattle.std.proofs.lemmas.Option.{slice_get_within}
use Rattle.abt_machine.specs.declared.events.Code.{Code}
use Rattle.abt_machine.specs.declared.events.Code.TheVariants as code
use Rattle.abt_machine.specs.declared.events.Site.{Site}
use Rattle.abt_machine.specs.declared.operations.Op.{Op}
use Rattle.abt_machine.specs.declared.workload.Parts.{Parts}
use Rattle.abt_machine.specs.Acts.{Act, Answer, moved}
use Rattle.abt_machine.specs.Plans as plans
use Rattle.abt_machine.specs.Plans.{Calls, Does, Effect, Exits, empties, keeps, plan_of, refusal}
use Rattle.abt_machine.specs.Turns.{Heard, Performs}
use Rattle.abt_machine.specs.Valid.{IsValid}
use Rattle.abt_machine.specs.Values.{Held, Object, Owned}
use Rattle.abt_machine.specs.Workloads.{body_at, op_at, ops_of}
use Rattle.abt_machine.proofs.Declared.{few-unit-ops, op-declared}
use Rattle.abt_calls.specs.Allowed.{Allows}
use Rattle.abt_unit.specs.Local.{after_local}
use Rattle.abt_plans.specs.declared.acts.Asking.{Asking}
use Rattle.abt_plans.specs.declared.acts.Giving.{Giving}
use Rattle.abt_plans.specs.declared.plans.Plan.{Plan}
use Rattle.abt_plans.specs.declared.plans.Plan.TheVariants as plan
use Rattle.abt_plans.specs.Acts.{asked, brought, given, told}
use Rattle.abt_plans.specs.Shapes.{IsPlan}
use Rattle.abt_plans.proofs.Locals.{planned-own}
use Rattle.abt_replay.specs.Events.{Alone, AreObjects, Asked, Heeds, Operated, OwnExit, OwnStep}
use Rattle.abt_replay.specs.Objects.{ObjectsValue, object_at}
use Rattle.abt_calls.proofs.Asked.{may-ask}

-- a unit is at one of its operations, so its position fits
pub position-below : (W : Parts) (u k : ℕ) (a : Op) → IsValid W → u < length W.units → op_at W u k ≡ Some a → k < 2 ^ 32 - 1
position-below W u k a valid declared at =
    let few = few-unit-ops W u valid in
    let within = slice_get_within (ops_of (body_at W u)) k a at in
    omega arith

-- What is asked.

module _ (W : Parts) (s : ℕ) (a : Op) (o : Owned) (p : Plan) (planned : IsPlan W s a o p) where
  pub own-local : p ≡ plan.Own → IsSome (after_local a o.carried)
  own-local is = subst (IsPlan W s a o) is planned

  module _ (valid : IsValid W) (number : o.number < length W.units) (at : op_at W o.number o.carried.position ≡ Some a) (objects : ObjectsValue) (are : AreObjects W objects) where
    allowed : (x : Site) (act : Act) (brings : Answer → Effect) → plan_of W s a o ≡ Calls x act brings → Allows (object_at objects x) act
    allowed x act brings calls =
        let may = may-ask W s a o x act brings valid number (op-declared W o.number o.carried.position a valid at) calls in
        subst (λ (q : Object). Allows q act) (sym (are.1 x may.site)) (may.allowed are.0)

    pub ask-allowed : (x : Site) (act : Asking) → p ≡ plan.Ask x act → Allows (object_at objects x) (asked act)
    ask-allowed x act is = allowed x (asked act) (told act o) (subst (IsPlan W s a o) is planned)

    pub give-allowed : (x : Site) (g : Giving) → p ≡ plan.Give x g → Allows (object_at objects x) (given g (moved o))
    give-allowed x g is = allowed x (given g (moved o)) (brought g) (subst (IsPlan W s a o) is planned)

-- What is made of it.

module _ (W : Parts) (s : ℕ) (a : Op) (o : Owned) (old : Held) (before : ObjectsValue) (c : Code) (new : Held) (after : ObjectsValue) where
  performed : (plan : plans.Plan) (heard : Option Heard) → plan_of W s a o ≡ plan → Performs old plan heard c new → Heeds before heard after → Operated W s a o old before c new after
  performed plan heard is performs heeds = (heard, subst (λ (p : plans.Plan). Performs old p heard c new) (sym is) performs, heeds)

  does : (e : Effect) → plan_of W s a o ≡ Does e → Alone e old c new → after ≡ before → Operated W s a o old before c new after
  does e is h stays = performed (Does e) None is (refl, h.0, h.1) stays

  calls : (x : Site) (act : Act) (brings : Answer → Effect) → plan_of W s a o ≡ Calls x act brings → Asked x act brings old before c new after → Operated W s a o old before c new after
  calls x act brings is h = performed (Calls x act brings) (Some (x, act, h.0)) is (h.0, refl, h.2.0, h.2.1) h.1

  module _ (p : Plan) (planned : IsPlan W s a o p) where
    pub own-made : p ≡ plan.Own → OwnStep a o old c new → after ≡ before → Operated W s a o old before c new after
    own-made is h stays = does (keeps h.0 []) (planned-own W s o a h.0 h.1) h.2 stays

    pub yield-made : p ≡ plan.Yield → Alone (empties (moved o ∷ [])) old c new → after ≡ before → Operated W s a o old before c new after
    yield-made is h stays = does (empties (moved o ∷ [])) (subst (IsPlan W s a o) is planned) h stays

    pub exit-made : p ≡ plan.Exit → OwnExit o old c new → after ≡ before → Operated W s a o old before c new after
    exit-made is h stays = performed (Exits (moved o)) None (subst (IsPlan W s a o) is planned) (refl, h.0, h.1) stays

    pub deny-made : p ≡ plan.Deny → Alone (refusal o code.PoolAccess) old c new → after ≡ before → Operated W s a o old before c new after
    deny-made is h stays = does (refusal o code.PoolAccess) (subst (IsPlan W s a o) is planned) h stays

    pub ask-made : (x : Site) (act : Asking) → p ≡ plan.Ask x act → Asked x (asked act) (told act o) old before c new after → Operated W s a o old before c new after
    ask-made x act is h = calls x (asked act) (told act o) (subst (IsPlan W s a o) is planned) h

    pub give-made : (x : Site) (g : Giving) → p ≡ plan.Give x g → Asked x (given g (moved o)) (brought g) old before c new after → Operated W s a o old before c new after
    give-made x g is h = calls x (given g (moved o)) (brought g) (subst (IsPlan W s a o) is planned) h

pub ruleset operations = (position-below, op-declared, own-local, ask-allowed, give-allowed, own-made, yield-made, exit-made, deny-made, ask-made, give-made)
