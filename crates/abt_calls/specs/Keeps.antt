-- What objects of all kinds keep.
use Rattle.std.specs.Prelude.{ℕ, ◌≡◌, Some}
use Rattle.std.specs.List.{All}
use Rattle.abt_machine.specs.declared.events.Site.{Site}
use Rattle.abt_machine.specs.declared.operations.Op.{Op}
use Rattle.abt_machine.specs.declared.workload.Parts.{Parts}
use Rattle.abt_machine.specs.Workloads.{op_at}
use Rattle.abt_machine.specs.Valid.{IsValid}
use Rattle.abt_machine.specs.Start.{start}
use Rattle.abt_machine.specs.Values.{Object, PoolIs, DeskIs, MonitorIs, EventualIs, FutureIs, BarrierIs, RwLockIs, NotHere, Owned, object_of}
use Rattle.abt_machine.specs.Acts.{Act, Answer}
use Rattle.abt_machine.specs.Plans.{Effect, Does, Calls, plan_of}
use Rattle.abt_machine.specs.Gives.{SiteGives}
use Rattle.abt_unit.specs.Fits.{Fits}
use Rattle.abt_chain.specs.Keeping.{Contents, Have, IsPoolOf, KeepsWhatFits, contents_answered, no_contents}
use Rattle.abt_pool.specs.Keeps.{contents_of_pool}
use Rattle.abt_desk.specs.Keeps.{contents_of_desk}
use Rattle.abt_monitor.specs.Keeps.{contents_of_monitor}
use Rattle.abt_eventual.specs.Keeps.{contents_of_eventual, contents_of_future}
use Rattle.abt_barrier.specs.Keeps.{contents_of_barrier}
use Rattle.abt_rwlock.specs.Keeps.{contents_of_rwlock}
use Rattle.abt_calls.specs.Asking.{IsSite}
use Rattle.abt_calls.specs.Effects.{units_left}

-- what an object of any kind holds
abbrev pub contents_of : Object → Contents
contents_of (PoolIs pool) = contents_of_pool pool
contents_of (DeskIs desk) = contents_of_desk desk
contents_of (MonitorIs m) = contents_of_monitor m
contents_of (EventualIs e) = contents_of_eventual e
contents_of (FutureIs f) = contents_of_future f
contents_of (BarrierIs b) = contents_of_barrier b
contents_of (RwLockIs l) = contents_of_rwlock l
contents_of NotHere = no_contents

-- an object of any kind keeps what fits a workload, if all that comes in fits it
abbrev pub ObjectsKeepWhatFits : Type 0
ObjectsKeepWhatFits = KeepsWhatFits contents_of SiteGives

-- what a declared object holds at the start of a valid workload is the workload's
abbrev pub StartFits : Type 0
StartFits = (W : Parts) (x : Site) → IsValid W → IsSite W x → Have (Fits W) (IsPoolOf W) (contents_of (object_of W (start W) x))

-- a step with no call leaves a unit that fits
abbrev pub OwnStepsFit : Type 0
OwnStepsFit =
    (W : Parts) (s : ℕ) (a : Op) (o : Owned) (e : Effect) → IsValid W → Fits W o → op_at W o.number o.carried.position ≡ Some a
    → plan_of W s a o ≡ Does e → All (Fits W) (units_left e)

-- a step with a call leaves units that fit, if those that come out do
abbrev pub EffectsFit : Type 0
EffectsFit =
    (W : Parts) (s : ℕ) (a : Op) (o : Owned) (x : Site) (act : Act) (brings : Answer → Effect) (answer : Answer)
    → Fits W o → op_at W o.number o.carried.position ≡ Some a → plan_of W s a o ≡ Calls x act brings
    → All (Fits W) (contents_answered answer).units → All (Fits W) (units_left (brings answer))
