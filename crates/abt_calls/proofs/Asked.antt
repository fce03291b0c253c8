-- What a stream plans may be called, and so may what it asks between steps.
use Rattle.std.proofs.Common.{◌≡◌, ℕ, ◌<◌, Bool, true, false, length, subst}
use Rattle.abt_machine.specs.declared.events.Site.{Site}
use Rattle.abt_machine.specs.declared.events.Site.TheVariants as site
use Rattle.abt_machine.specs.declared.operations.Kind.{Kind}
use Rattle.abt_machine.specs.declared.operations.Kind.TheVariants as kind
use Rattle.abt_machine.specs.declared.operations.Op.{Op}
use Rattle.abt_machine.specs.declared.workload.Parts.{Parts}
use Rattle.abt_machine.specs.Operations.{IsDeclared}
use Rattle.abt_machine.specs.Workloads.{kind_of}
use Rattle.abt_machine.specs.Fronts.{owns, side_by}
use Rattle.abt_machine.specs.Valid.{IsValid}
use Rattle.abt_machine.specs.Values.{Owned}
use Rattle.abt_machine.specs.Acts.{Act, Answer, Look, End, moved}
use Rattle.abt_machine.specs.Pools.{HasSide}
use Rattle.abt_machine.specs.Plans.{Effect, Plan, Calls, plan_of}
use Rattle.abt_machine.proofs.Declared.{op-declared}
use Rattle.abt_unit.specs.Fits.{Fits}
use Rattle.abt_unit.proofs.Fitting.{Fits-moved}
use Rattle.abt_chain.specs.Keeping.{Contents, Have, IsPoolOf, contents_asked, no_contents}
use Rattle.abt_calls.specs.Asking.{MayCall, PlansMayCall, TakesMayCall, PutsMayCall, LooksMayCall, EndsMayCall}
use Rattle.abt_calls.proofs.Shapes.{Calling, Facts, Shape, by-shape, nothing-comes, plan_by, unit-comes}
use Rattle.abt_calls.proofs.SiteCalls.{MayAsk, may-at}

-- what a plan calls may be called
abbrev MayPlan : Parts → Plan → Type 0
MayPlan W (Calls x asked brings) = MayAsk W x asked
MayPlan W _ = Unit {0}

shape-may : (W : Parts) (a : Op) (o : Owned) → IsValid W → o.number < length W.units → IsDeclared W a → (shape : Shape) → Facts W a o shape → MayPlan W (plan_by o shape)
shape-may W a o valid number is (Calling x asked asker) facts = facts.may valid number is
shape-may W a o valid number is _ facts = tt

-- what the operation of a declared unit calls
pub may-ask : (W : Parts) (s : ℕ) (a : Op) (o : Owned) (x : Site) (asked : Act) (brings : Answer → Effect) → IsValid W → o.number < length W.units → IsDeclared W a
    → plan_of W s a o ≡ Calls x asked brings → MayAsk W x asked
may-ask W s a o x asked brings valid number is plan = by-shape W s a o (MayPlan W) (shape-may W a o valid number is) (Calls x asked brings) plan

-- what comes with the call of a plan
abbrev comes_with : Plan → Contents
comes_with (Calls x asked brings) = contents_asked asked
comes_with _ = no_contents

-- what comes with the call of a unit's operation is the workload's
shape-comes : (W : Parts) (a : Op) (o : Owned) → IsValid W → Fits W (moved o) → IsDeclared W a → (shape : Shape) → Facts W a o shape
    → Have (Fits W) (IsPoolOf W) (comes_with (plan_by o shape))
shape-comes W a o valid later is (Calling x asked asker) facts = facts.comes valid later is
shape-comes W a o valid later is _ facts = nothing-comes W

-- an act that may be asked may be called with what is the workload's
called : (W : Parts) (x : Site) (asked : Act) → MayAsk W x asked → Have (Fits W) (IsPoolOf W) (contents_asked asked) → MayCall W x asked
called W x asked may comes = record { site = may.site; allowed = may.allowed; contents = comes }

-- Calls.

pub plans-may-call : PlansMayCall
plans-may-call W s a o x asked brings valid fits is plan =
    let declared : IsDeclared W a = op-declared W o.number o.carried.position a valid is in
    called W x asked (may-ask W s a o x asked brings valid fits.number declared plan)
    (by-shape W s a o (λ p. Have (Fits W) (IsPoolOf W) (comes_with p)) (shape-comes W a o valid (Fits-moved fits a is) declared) (Calls x asked brings) plan)

side-by : (k : Kind) (own : Bool) → HasSide k (side_by k own)
side-by kind.Fifo own = tt
side-by kind.Deque true = tt
side-by kind.Deque false = tt

pub takes-may-call : TakesMayCall
takes-may-call W s p declared = record { site = declared; allowed = λ S. side-by (kind_of W p.0) (owns W s p.0); contents = nothing-comes W }

pub puts-may-call : PutsMayCall
puts-may-call W o p fits is = record { site = subst (λ n. n < length W.pools) is fits.home; allowed = λ S. tt; contents = unit-comes W o fits }

pub looks-may-call : LooksMayCall
looks-may-call W o u fits is = called W (site.Desk u) Look (may-at W (site.Desk u) Look (subst (λ n. n < length W.units) is fits.number) tt) (nothing-comes W)

pub ends-may-call : EndsMayCall
ends-may-call W o u cause fits is =
    called W (site.Desk u) (End o cause) (may-at W (site.Desk u) (End o cause) (subst (λ n. n < length W.units) is fits.number) tt) (unit-comes W o fits)
