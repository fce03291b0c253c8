-- Sites by number: pools first, then desks, then the things that a workload declares as objects, each in order of declaration.
use Rattle.std.specs.Prelude.{ℕ, ◌+◌, ◌-◌, nat_lt, cond, length, slice_get, Option, Some, None}
use Rattle.abt_machine.specs.declared.events.Site.{Site}
use Rattle.abt_machine.specs.declared.events.Site.TheVariants as site
use Rattle.abt_machine.specs.declared.operations.Thing.{Thing}
use Rattle.abt_machine.specs.declared.operations.Thing.TheVariants as thing
use Rattle.abt_machine.specs.declared.workload.Parts.{Parts}
use Rattle.abt_machine.specs.Numbers.{pool_no, unit_no, object_no}
use Rattle.abt_machine.specs.Workloads.{thing_at}

-- how many numbers there are; that of a condition is no site's
abbrev pub sites : Parts → ℕ
sites W = length W.pools + length W.units + length W.objects

-- the number, if the workload declares a pool, a unit or a thing of that kind there

abbrev pub declared_number : {Part : Type 0} → ℕ → Option Part → Option ℕ
declared_number i (Some part) = Some i
declared_number i None = None

abbrev pub monitor_number : ℕ → Option Thing → Option ℕ
monitor_number i (Some thing.Mutex) = Some i
monitor_number i _ = None

abbrev pub eventual_number : ℕ → Option Thing → Option ℕ
eventual_number i (Some thing.Eventual) = Some i
eventual_number i _ = None

abbrev pub future_number : ℕ → Option Thing → Option ℕ
future_number i (Some (thing.Future n c)) = Some i
future_number i _ = None

abbrev pub barrier_number : ℕ → Option Thing → Option ℕ
barrier_number i (Some (thing.Barrier n)) = Some i
barrier_number i _ = None

abbrev pub rwlock_number : ℕ → Option Thing → Option ℕ
rwlock_number i (Some thing.RwLock) = Some i
rwlock_number i _ = None

-- the number of thing x
abbrev pub thing_number : Parts → ℕ → ℕ
thing_number W x = length W.pools + length W.units + x

-- the number of a site that the workload declares
abbrev pub site_number : Parts → Site → Option ℕ
site_number W (site.Pool p) = declared_number p.0 (slice_get W.pools p.0)
site_number W (site.Desk u) = declared_number (length W.pools + u.0) (slice_get W.units u.0)
site_number W (site.Monitor x) = monitor_number (thing_number W x.0) (thing_at W x.0)
site_number W (site.Eventual x) = eventual_number (thing_number W x.0) (thing_at W x.0)
site_number W (site.Future x) = future_number (thing_number W x.0) (thing_at W x.0)
site_number W (site.Barrier x) = barrier_number (thing_number W x.0) (thing_at W x.0)
site_number W (site.Rw x) = rwlock_number (thing_number W x.0) (thing_at W x.0)

-- the site of thing x, by its kind: a condition is none
abbrev pub site_of : ℕ → Option Thing → Option Site
site_of x None = None
site_of x (Some thing.Mutex) = Some (site.Monitor (object_no x))
site_of x (Some (thing.Cond m)) = None
site_of x (Some thing.Eventual) = Some (site.Eventual (object_no x))
site_of x (Some (thing.Future n c)) = Some (site.Future (object_no x))
site_of x (Some (thing.Barrier n)) = Some (site.Barrier (object_no x))
site_of x (Some thing.RwLock) = Some (site.Rw (object_no x))

-- the site of number i, if it is a site's
abbrev pub site_numbered : Parts → ℕ → Option Site
site_numbered W i = cond (nat_lt i (length W.pools)) (Some (site.Pool (pool_no i)))
    (cond (nat_lt i (length W.pools + length W.units)) (Some (site.Desk (unit_no (i - length W.pools))))
    (site_of (i - (length W.pools + length W.units)) (thing_at W (i - (length W.pools + length W.units)))))
