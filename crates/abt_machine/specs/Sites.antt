-- The sites of objects, and the pool that a stream takes from first.
use Rattle.std.specs.Prelude.{ℕ, Option, Some, None}
use Rattle.abt_machine.specs.Numbers.{object_no}
use Rattle.abt_machine.specs.declared.operations.Thing.{Thing}
use Rattle.abt_machine.specs.declared.operations.Thing.TheVariants as thing
use Rattle.abt_machine.specs.declared.events.Site.{Site}
use Rattle.abt_machine.specs.declared.events.Site.TheVariants as site
use Rattle.abt_machine.specs.declared.workload.Parts.{Parts}
use Rattle.abt_machine.specs.Workloads.{thing_at, mutex_of, main_of, pools_of}
use Rattle.abt_machine.specs.Queues.{first}

-- the monitor of a mutex, or of a condition's mutex
abbrev pub monitor_of : Parts → ℕ → Site
monitor_of W x = site.Monitor (object_no (mutex_of W x))

abbrev pub thing_site : ℕ → Option Thing → Site
thing_site x None = site.Monitor (object_no x)
thing_site x (Some thing.Mutex) = site.Monitor (object_no x)
thing_site x (Some (thing.Cond m)) = site.Monitor m
thing_site x (Some thing.Eventual) = site.Eventual (object_no x)
thing_site x (Some (thing.Future n c)) = site.Future (object_no x)
thing_site x (Some (thing.Barrier n)) = site.Barrier (object_no x)
thing_site x (Some thing.RwLock) = site.Rw (object_no x)

-- the site that keeps an object's waiters
abbrev pub object_site : Parts → ℕ → Site
object_site W x = thing_site x (thing_at W x)

abbrev pub home_from : Option ℕ → ℕ
home_from None = 0
home_from (Some p) = p

-- the pool that the main scheduler of a stream lists first
abbrev pub first_pool : Parts → ℕ → ℕ
first_pool W s = home_from (first (pools_of W (main_of W s)))

-- the number of the pool, unit or object that a site is of
abbrev pub place_number : Site → ℕ
place_number (site.Pool p) = p.0
place_number (site.Desk u) = u.0
place_number (site.Monitor x) = x.0
place_number (site.Eventual x) = x.0
place_number (site.Future x) = x.0
place_number (site.Barrier x) = x.0
place_number (site.Rw x) = x.0
