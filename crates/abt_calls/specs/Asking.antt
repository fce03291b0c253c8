-- Which calls a stream makes: each at a declared site, of what may be asked there.
use Rattle.std.specs.Prelude.{ℕ, ◌≡◌, ◌<◌, Some, length}
use Rattle.abt_machine.specs.declared.events.Cause.{Cause}
use Rattle.abt_machine.specs.declared.events.Site.{Site}
use Rattle.abt_machine.specs.declared.events.Site.TheVariants as site
use Rattle.abt_machine.specs.declared.numbers.PoolNo.{PoolNo}
use Rattle.abt_machine.specs.declared.numbers.UnitNo.{UnitNo}
use Rattle.abt_machine.specs.declared.operations.Op.{Op}
use Rattle.abt_machine.specs.declared.workload.Parts.{Parts}
use Rattle.abt_machine.specs.Operations.{IsMutex, IsEventual, IsFuture, IsBarrier, IsRwLock}
use Rattle.abt_machine.specs.Workloads.{op_at}
use Rattle.abt_machine.specs.Valid.{IsValid}
use Rattle.abt_machine.specs.State.{State}
use Rattle.abt_machine.specs.Values.{Owned, object_of}
use Rattle.abt_machine.specs.Acts.{Act, Answer, Put, Take, Look, End}
use Rattle.abt_machine.specs.Plans.{Effect, Calls, plan_of}
use Rattle.abt_machine.specs.Fronts.{side_of}
use Rattle.abt_unit.specs.Fits.{Fits}
use Rattle.abt_chain.specs.Keeping.{Have, IsPoolOf, contents_asked}
use Rattle.abt_calls.specs.Allowed.{Allows}

-- the site is declared, with an object of its kind
abbrev pub IsSite : Parts → Site → Type 0
IsSite W (site.Pool p) = p.0 < length W.pools
IsSite W (site.Desk u) = u.0 < length W.units
IsSite W (site.Monitor x) = IsMutex W x.0
IsSite W (site.Eventual x) = IsEventual W x.0
IsSite W (site.Future x) = IsFuture W x.0
IsSite W (site.Barrier x) = IsBarrier W x.0
IsSite W (site.Rw x) = IsRwLock W x.0

-- the act may be called at the site: in every state an object stands there that may be asked it, and the units and pools that
-- come with it are the workload's
pub record MayCall (W : Parts) (x : Site) (act : Act) : Type 0 where
  pub site : IsSite W x
  pub allowed : (S : State) → Allows (object_of W S x) act
  pub contents : Have (Fits W) (IsPoolOf W) (contents_asked act)

-- what is planned at the operation of a unit may be called
abbrev pub PlansMayCall : Type 0
PlansMayCall =
    (W : Parts) (s : ℕ) (a : Op) (o : Owned) (x : Site) (act : Act) (brings : Answer → Effect)
    → IsValid W → Fits W o → op_at W o.number o.carried.position ≡ Some a → plan_of W s a o ≡ Calls x act brings → MayCall W x act

-- a declared pool may be asked for a unit at the end at which a stream takes
abbrev pub TakesMayCall : Type 0
TakesMayCall = (W : Parts) (s : ℕ) (p : PoolNo) → p.0 < length W.pools → MayCall W (site.Pool p) (Take (side_of W s p.0))

-- a unit may be put into its home
abbrev pub PutsMayCall : Type 0
PutsMayCall = (W : Parts) (o : Owned) (p : PoolNo) → Fits W o → o.carried.home ≡ p.0 → MayCall W (site.Pool p) (Put o)

-- a unit's desk may be looked at
abbrev pub LooksMayCall : Type 0
LooksMayCall = (W : Parts) (o : Owned) (u : UnitNo) → Fits W o → o.number ≡ u.0 → MayCall W (site.Desk u) Look

-- a unit may end at its desk
abbrev pub EndsMayCall : Type 0
EndsMayCall = (W : Parts) (o : Owned) (u : UnitNo) (cause : Cause) → Fits W o → o.number ≡ u.0 → MayCall W (site.Desk u) (End o cause)
