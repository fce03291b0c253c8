-- The site of an operation on an object keeps those that wait at the object.
use Rattle.std.proofs.Common.{◌≡◌, ℕ, Option, Some, sym, ◌∙◌, ap}
use Rattle.abt_machine.specs.declared.events.Site.TheVariants as site
use Rattle.abt_machine.specs.declared.numbers.ObjectNo.{ObjectNo}
use Rattle.abt_machine.specs.declared.operations.Thing.{Thing}
use Rattle.abt_machine.specs.declared.operations.Thing.TheVariants as thing
use Rattle.abt_machine.specs.declared.workload.Parts.{Parts}
use Rattle.abt_machine.specs.Numbers.{object_no}
use Rattle.abt_machine.specs.Workloads.{IsCondition, thing_at, mutex_of, mutex_from}
use Rattle.abt_machine.specs.Sites.{monitor_of, thing_site, object_site}
use Rattle.abt_machine.specs.Operations.{IsMutex, IsEventual, IsFuture, IsBarrier, IsRwLock}
use Rattle.abt_machine.specs.Valid.{IsValid}
use Rattle.abt_machine.proofs.Declared.{mutex-declared}

-- the waiters of an object are kept at the site that its kind names
thing-waits : (W : Parts) (x : ℕ) (t : Option Thing) → thing_at W x ≡ t → Some (thing_site x t) ≡ Some (object_site W x)
thing-waits W x t h = ap (λ o. Some (thing_site x o)) (sym h)

pub mutex-waits : (W : Parts) (x : ObjectNo) → IsMutex W x.0 → Some (site.Monitor x) ≡ Some (object_site W x.0)
mutex-waits W x h = thing-waits W x.0 (Some thing.Mutex) h

pub eventual-waits : (W : Parts) (x : ObjectNo) → IsEventual W x.0 → Some (site.Eventual x) ≡ Some (object_site W x.0)
eventual-waits W x h = thing-waits W x.0 (Some thing.Eventual) h

pub future-waits : (W : Parts) (x : ObjectNo) → IsFuture W x.0 → Some (site.Future x) ≡ Some (object_site W x.0)
future-waits W x h = thing-waits W x.0 (Some (thing.Future h.0 h.1)) h.2

pub barrier-waits : (W : Parts) (x : ObjectNo) → IsBarrier W x.0 → Some (site.Barrier x) ≡ Some (object_site W x.0)
barrier-waits W x h = thing-waits W x.0 (Some (thing.Barrier h.0)) h.1

pub rwlock-waits : (W : Parts) (x : ObjectNo) → IsRwLock W x.0 → Some (site.Rw x) ≡ Some (object_site W x.0)
rwlock-waits W x h = thing-waits W x.0 (Some thing.RwLock) h

pub condition-waits : (W : Parts) (x : ℕ) → IsCondition W x → Some (monitor_of W x) ≡ Some (object_site W x)
condition-waits W x h = ap (λ m. Some (site.Monitor (object_no m))) (ap (mutex_from x) h.1) ∙ thing-waits W x (Some (thing.Cond h.0)) h.1

-- the mutex of a condition is a mutex
pub condition-mutex-waits : (W : Parts) (x : ℕ) → IsValid W → IsCondition W x → Some (monitor_of W x) ≡ Some (object_site W (mutex_of W x))
condition-mutex-waits W x valid h = mutex-waits W (object_no (mutex_of W x)) (mutex-declared W x valid h)
