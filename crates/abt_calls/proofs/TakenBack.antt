-- A unit that ends or is suspended comes back to its own desk, and finds it out.
use Rattle.std.proofs.Common.{◌≡◌, ℕ, ◌==◌, true, List, [], ◌∷◌, map, Option, Some, refl, sym, ◌∙◌, ap, subst}
use Rattle.std.specs.Prelude.{◌&&◌}
use Rattle.std.proofs.lemmas.Bool.{eq-eqb}
use Rattle.abt_machine.specs.declared.events.Code.{Code}
use Rattle.abt_machine.specs.declared.events.What.TheVariants as what
use Rattle.abt_machine.specs.declared.operations.Op.{Op}
use Rattle.abt_machine.specs.declared.workload.Parts.{Parts}
use Rattle.abt_machine.specs.Queues.{first}
use Rattle.abt_machine.specs.State.{State}
use Rattle.abt_machine.specs.Lines.{Line, InHand, standing}
use Rattle.abt_machine.specs.Values.{Owned, Held, owned_at, owned_in, part_of, object_of, phase_at, desk_value}
use Rattle.abt_machine.specs.Desks.{is_out, takes_back}
use Rattle.abt_machine.specs.Plans.{Plan, Does, Calls, Exits, plan_of}
use Rattle.abt_machine.specs.Turns.{Heard, Performs}
use Rattle.abt_laws.proofs.Lists.{EachOf}
use Rattle.abt_laws.proofs.Options.{none≢some, some-injective}
use Rattle.abt_laws.proofs.Standing.{StandsIn, each-stands}
use Rattle.abt_calls.specs.OwnDesks.{BringsBack, HandsAreOut, IsTakenBack, StepsBringBack}
use Rattle.abt_calls.proofs.Shapes.{Facts, Shape, Calling, by-shape, plan_by}

-- the first of a line stands in it, and is a unit of the state
pub record IsFirst (W : Parts) (S : State) (l : Line) (o : Owned) : Type 0 where
  pub stands : StandsIn W S l o.number
  pub owned : owned_at S o.number ≡ o

first-by : (W : Parts) (S : State) (l : Line) (o : Owned) (us : List ℕ) → EachOf (StandsIn W S l) us → first (map (owned_at S) us) ≡ Some o → IsFirst W S l o
first-by W S l o [] each e = absurd (none≢some e)
first-by W S l o (u ∷ us) each e =
    let is : owned_at S u ≡ o = some-injective e in
    let number : u ≡ o.number = ap (λ q. q.number) is in
    record { stands = subst (StandsIn W S l) number each.0; owned = ap (owned_at S) (sym number) ∙ is }

pub first-owned : (W : Parts) (S : State) (l : Line) (o : Owned) → first (owned_in W S l) ≡ Some o → IsFirst W S l o
first-owned W S l o e = first-by W S l o (standing W S l) (each-stands W S l) e

pub hands-are-out : HandsAreOut
hands-are-out W S s o e =
    let is : IsFirst W S (InHand s) o = first-owned W S (InHand s) o e in
    ap (λ pl. is_out (phase_at (owned_at S o.number) pl) && o.number == o.number) is.stands.at ∙ eq-eqb o.number o.number refl

-- what is planned brings a unit back to its own desk alone
abbrev PlanBringsBack : Parts → State → Plan → Type 0
PlanBringsBack W S (Calls x asked brings) = IsTakenBack asked (object_of W S x)
PlanBringsBack W S _ = Unit {0}

shape-brings : (W : Parts) (S : State) (a : Op) (o : Owned) → takes_back (desk_value W S o.number) o ≡ true → (shape : Shape) → Facts W a o shape → PlanBringsBack W S (plan_by o shape)
shape-brings W S a o own (Calling x asked asker) facts = facts.home S own
shape-brings W S a o own _ facts = tt

performs-brings : (W : Parts) (S : State) (old : Held) (plan : Plan) (heard : Option Heard) (c : Code) (new : Held)
    → PlanBringsBack W S plan → Performs old plan heard c new → BringsBack W S heard
performs-brings W S old (Does e) heard c new back st = subst (BringsBack W S) (sym st.0) tt
performs-brings W S old (Calls x asked brings) heard c new back st = subst (BringsBack W S) (sym st.1) back
performs-brings W S old (Exits b) heard c new back st = subst (BringsBack W S) (sym st.0) tt

pub steps-bring-back : StepsBringBack
steps-bring-back W Z S s (what.Miss p) heard new st = subst (BringsBack W S) (sym st.2) tt
steps-bring-back W Z S s (what.Take p u) heard new st = subst (BringsBack W S) (sym st.4) tt
steps-bring-back W Z S s (what.Look u) heard new st = subst (BringsBack W S) (sym st.6) tt
steps-bring-back W Z S s (what.Step u k c) heard new st =
    performs-brings W S (part_of W S s) (plan_of W s st.5 st.1) heard c new
    (by-shape W s st.5 st.1 (PlanBringsBack W S) (shape-brings W S st.5 st.1 (hands-are-out W S s st.1 st.2)) (plan_of W s st.5 st.1) refl) st.7
steps-bring-back W Z S s (what.Call u k n) heard new st = subst (BringsBack W S) (sym st.6) tt
steps-bring-back W Z S s (what.Put u p) heard new st = subst (BringsBack W S) (sym st.6) tt
steps-bring-back W Z S s (what.End u c) heard new st =
    subst (BringsBack W S) (sym st.5) (subst (λ n. takes_back (desk_value W S n) st.1 ≡ true) st.3 (hands-are-out W S s st.1 st.2))
steps-bring-back W Z S s (what.Enter u) heard new st = subst (BringsBack W S) (sym st.4) tt
steps-bring-back W Z S s (what.Leave u) heard new st = subst (BringsBack W S) (sym st.5) tt
