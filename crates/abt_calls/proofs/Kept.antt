-- What objects of all kinds keep.
use Rattle.std.proofs.Common.{◌≡◌, sym, subst}
use Rattle.abt_machine.specs.declared.workload.Parts.{Parts}
use Rattle.abt_machine.specs.Values.{Object, PoolIs, DeskIs, MonitorIs, EventualIs, FutureIs, BarrierIs, RwLockIs, NotHere}
use Rattle.abt_machine.specs.Acts.{Answer}
use Rattle.abt_unit.specs.Fits.{Fits}
use Rattle.abt_chain.specs.Keeping.{Have, IsPoolOf, contents_answered}
use Rattle.abt_pool.proofs.Kept.{pools-keep-what-fits}
use Rattle.abt_desk.proofs.Kept.{desks-keep-what-fits}
use Rattle.abt_monitor.proofs.Kept.{monitors-keep-what-fits}
use Rattle.abt_eventual.proofs.Kept.{eventuals-keep-what-fits, futures-keep-what-fits}
use Rattle.abt_barrier.proofs.Kept.{barriers-keep-what-fits}
use Rattle.abt_rwlock.proofs.Kept.{rwlocks-keep-what-fits}
use Rattle.abt_calls.specs.Keeps.{ObjectsKeepWhatFits, contents_of}

-- what comes out and what the object then holds are the workload's
becomes : (W : Parts) (answer : Answer) (new object : Object) → new ≡ object
    → Have (Fits W) (IsPoolOf W) (contents_answered answer) × Have (Fits W) (IsPoolOf W) (contents_of object)
    → Have (Fits W) (IsPoolOf W) (contents_answered answer) × Have (Fits W) (IsPoolOf W) (contents_of new)
becomes W answer new object is both = (both.0, subst (λ m. Have (Fits W) (IsPoolOf W) (contents_of m)) (sym is) both.1)

pub objects-keep-what-fits : ObjectsKeepWhatFits
objects-keep-what-fits W (PoolIs old) act answer new gives held asked = becomes W answer new (PoolIs gives.0) gives.1 (pools-keep-what-fits W old act answer gives.0 gives.2 held asked)
objects-keep-what-fits W (DeskIs old) act answer new gives held asked = becomes W answer new (DeskIs gives.0) gives.1 (desks-keep-what-fits W old act answer gives.0 gives.2 held asked)
objects-keep-what-fits W (MonitorIs old) act answer new gives held asked = becomes W answer new (MonitorIs gives.0) gives.1 (monitors-keep-what-fits W old act answer gives.0 gives.2 held asked)
objects-keep-what-fits W (EventualIs old) act answer new gives held asked = becomes W answer new (EventualIs gives.0) gives.1 (eventuals-keep-what-fits W old act answer gives.0 gives.2 held asked)
objects-keep-what-fits W (FutureIs old) act answer new gives held asked = becomes W answer new (FutureIs gives.0) gives.1 (futures-keep-what-fits W old act answer gives.0 gives.2 held asked)
objects-keep-what-fits W (BarrierIs old) act answer new gives held asked = becomes W answer new (BarrierIs gives.0) gives.1 (barriers-keep-what-fits W old act answer gives.0 gives.2 held asked)
objects-keep-what-fits W (RwLockIs old) act answer new gives held asked = becomes W answer new (RwLockIs gives.0) gives.1 (rwlocks-keep-what-fits W old act answer gives.0 gives.2 held asked)
objects-keep-what-fits W NotHere act answer new gives held asked = absurd gives
